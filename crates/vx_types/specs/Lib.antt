pub mod Arguments
pub mod Onto
pub mod Whole
pub mod Laws
