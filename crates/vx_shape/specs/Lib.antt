pub mod Flows
pub mod Shape
pub mod ShapeTest
pub mod Origins
