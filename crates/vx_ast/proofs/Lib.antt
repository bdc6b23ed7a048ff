pub mod Programs
pub mod MeaningRows
pub mod LoopRows
pub mod CallRows
mod ArrayRows
mod AcceptedRows
pub mod PieceLaws
pub mod TokenLaws
mod TokenRows
pub mod Arguments
pub mod MoreTurns
pub mod Ranges
