pub mod Storage
pub mod Machine
pub mod Tally
