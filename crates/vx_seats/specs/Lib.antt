pub mod Arrays
pub mod SeatLaws
pub mod Shown
