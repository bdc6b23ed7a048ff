pub mod Shown
pub mod Agreeing
pub mod Turns
pub mod Found
pub mod Pairs
pub mod Moved
mod BaseRows
