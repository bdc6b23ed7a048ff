pub mod Residues
pub mod Facts
pub mod Accesses
pub mod Sums
pub mod Forming
pub mod Keeping
pub mod Marking
pub mod Claims
