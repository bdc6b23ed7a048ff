pub mod Bounds
pub mod Framing
pub mod Saves
pub mod LoopExample
pub mod Globals
pub mod Slots
