pub mod Ways
pub mod Unique
pub mod Readings
pub mod Bests
pub mod Grows
pub mod Seeds
