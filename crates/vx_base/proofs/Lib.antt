pub mod ArithmeticLaws
mod ArithmeticRows
pub mod WrapLaws
pub mod Same
pub mod Following
pub mod Runs
pub mod Meeting
pub mod Settle
pub mod Flight
pub mod AnyTiming
mod TimedRows
pub mod Certificate
pub mod TwoTimings
pub mod InFlight
pub mod Pieces
pub mod Schedule
pub mod Leaving
