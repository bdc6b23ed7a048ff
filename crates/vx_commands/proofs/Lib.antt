mod GraphRows
pub mod Rewriting
pub mod Answering
pub mod Completing
mod Always
pub mod Boxed
pub mod Executing
pub mod Loading
pub mod Performing
pub mod Executed
pub mod SoakLaws
pub mod Completed
mod Passed
