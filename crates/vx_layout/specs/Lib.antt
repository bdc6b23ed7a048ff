pub mod Laying
pub mod Laid
pub mod Numbered
pub mod Origins
pub mod LayoutLaws
pub mod Brief
pub mod OriginLaws
