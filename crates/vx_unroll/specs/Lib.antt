pub mod Unrolling
pub mod Growth
pub mod Laws
