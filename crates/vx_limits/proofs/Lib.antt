pub mod Views
pub mod Caps
pub mod Limited
pub mod Counting
