pub mod Items
pub mod Room
pub mod Left
pub mod Needs
pub mod Takes
