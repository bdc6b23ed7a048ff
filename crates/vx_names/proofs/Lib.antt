pub mod Lists
pub mod Lookups
pub mod Agreeing
pub mod Passing
pub mod Declaring
