pub mod FileSoFar
pub mod OutsideLaws
mod OutsideRows
pub mod PutSoFar
