pub mod Verdicts
pub mod Leading
pub mod Entries
pub mod Reaches
pub mod Passing
pub mod Tables
pub mod BranchRows
