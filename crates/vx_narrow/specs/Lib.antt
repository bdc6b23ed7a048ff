pub mod Masking
pub mod Placing
pub mod Shortening
pub mod Rewriting
pub mod Staying
pub mod Narrowing
pub mod Checking
