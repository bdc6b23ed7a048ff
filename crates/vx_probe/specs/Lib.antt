pub mod Times
pub mod Counts
pub mod Watch
