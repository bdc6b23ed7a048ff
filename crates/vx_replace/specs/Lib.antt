pub mod TraceLists
pub mod Placing
pub mod Exchanged
pub mod MadeEdges
