pub mod Order
pub mod Path
pub mod Past
pub mod Noted
