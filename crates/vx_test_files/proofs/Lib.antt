pub mod MemFiles
pub mod LineLemmas
pub mod LinesLaw
mod MemoryRows
