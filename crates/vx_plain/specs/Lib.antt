pub mod Kept
pub mod Interpreting
