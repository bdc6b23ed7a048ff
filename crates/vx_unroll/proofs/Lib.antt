mod Beside
mod Copies
mod Unrolled
mod Suited
mod Whole
mod Sizes
mod Items
mod Accepting
mod Lists
mod Falls
mod Rooms
mod Making
mod Declaring
mod Outcomes
pub mod Asking
mod Rows
