pub mod Rewritten
pub mod Filling
