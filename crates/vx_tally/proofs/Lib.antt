pub mod Storing
pub mod Running
pub mod Turns
pub mod Passing
pub mod Paths
pub mod Tallying
pub mod Gathering
