pub mod WordSteps
pub mod Settling
pub mod Passing
