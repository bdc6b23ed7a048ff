pub mod Leasts
pub mod Scoping
pub mod Views
pub mod Rows
pub mod Declarations
pub mod Lists
mod Codes
pub mod Suits
pub mod Numbered
pub mod SuitsCode
pub mod SuitsProgram
pub mod Wholes
mod Weights
mod FaultRows
pub mod Firsts
