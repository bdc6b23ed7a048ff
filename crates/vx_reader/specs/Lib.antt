pub mod Fields
pub mod Forms
pub mod Reading
pub mod Steps
pub mod Text
pub mod Laws
