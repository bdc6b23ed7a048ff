pub mod Wrapping
pub mod Beyond
pub mod Counting
pub mod Pieces
pub mod Length
mod Rows
