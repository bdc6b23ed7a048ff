pub mod Reading
pub mod PhraseLaws
pub mod Choices
pub mod Statements
pub mod Definitions
