pub mod Placement
pub mod Filling
pub mod Crowding
pub mod Ranking
