pub mod Lists
pub mod Pairs
pub mod ShapeTests
pub mod FlowsStay
pub mod FlowsAlike
pub mod Noting
pub mod Sizes
