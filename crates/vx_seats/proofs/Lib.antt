pub mod SeatSteps
pub mod Showing
