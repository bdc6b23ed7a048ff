pub mod Descriptions
pub mod Marks
pub mod Resources
pub mod Left
