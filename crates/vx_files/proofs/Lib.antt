pub mod Pieces
pub mod InRange
mod InputRows
pub mod Refusing
pub mod MachineFile
pub mod ProfileFile
mod Digits
pub mod Fronts
pub mod SourceLaws
pub mod SourceFile
pub mod WholeFile
pub mod InputFile
