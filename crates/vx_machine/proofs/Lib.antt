mod Views
mod Ranges
mod ReadsLaw
mod DescriptionRows
mod MarksLaw
pub mod Counts
pub mod LeftSteps
pub mod Covered
