pub mod Planned
pub mod Moved
pub mod Returned
pub mod Whole
pub mod Plans
pub mod Emitted
pub mod PlanLaws
pub mod Fitted
