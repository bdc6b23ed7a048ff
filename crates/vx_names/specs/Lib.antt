pub mod Entries
pub mod Agrees
