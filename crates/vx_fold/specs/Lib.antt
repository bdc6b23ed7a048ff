pub mod Folding
pub mod Thinning
