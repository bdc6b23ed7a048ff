mod MachineRows
mod FitsRows
mod SoundRows
pub mod Lists
pub mod Ranges
pub mod FitsLaw
pub mod Steady
pub mod SoundLaw
pub mod Alike
pub mod IssuingMachine
pub mod AnyTiming
