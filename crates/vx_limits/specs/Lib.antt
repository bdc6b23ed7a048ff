pub mod Words
pub mod Capped
