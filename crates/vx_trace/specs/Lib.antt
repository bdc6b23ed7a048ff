pub mod Picked
pub mod Growing
