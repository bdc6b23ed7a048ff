pub mod Fields
pub mod Programs
