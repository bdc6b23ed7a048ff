pub mod Full
pub mod Asked
