pub mod Graphs
pub mod Traces
