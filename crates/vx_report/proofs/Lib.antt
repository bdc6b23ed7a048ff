mod Rows
pub mod Names
pub mod Pieces
