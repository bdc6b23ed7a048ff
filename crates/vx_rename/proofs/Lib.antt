mod Examples
mod Standings
mod OpsTied
mod BlocksTied
mod Entered
mod RunsTied
mod RenameRuns
mod RenameShape
mod RenameFlow
mod RenameWays
pub mod Making
mod Alls
mod Moved
