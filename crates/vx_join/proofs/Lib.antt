pub mod Filtering
pub mod Greatest
