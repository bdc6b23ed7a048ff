pub mod Checked
pub mod InFlight
