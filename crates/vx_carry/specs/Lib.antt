pub mod Planning
pub mod Landings
