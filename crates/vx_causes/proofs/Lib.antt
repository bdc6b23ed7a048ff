pub mod Sorts
pub mod Lasts
pub mod Stands
pub mod Operations
pub mod Directives
pub mod Header
pub mod Words
pub mod OperationStep
pub mod Found
pub mod Refused
mod Rows
