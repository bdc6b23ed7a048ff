mod Folds
mod FoldRuns
mod FoldFlow
pub mod Alls
pub mod Thins
mod ThinRuns
mod ThinFlow
