pub mod Answers
pub mod Productions
pub mod Fronts
