pub mod Orders
pub mod Notings
pub mod Edges
