pub mod Unique
pub mod Telling
pub mod Written
pub mod Applying
pub mod Nowhere
pub mod Standing
pub mod Quiet
pub mod Apart
pub mod Noting
pub mod Rising
pub mod Kept
pub mod Moved
pub mod Looking
pub mod Linked
pub mod Nearby
pub mod Sought
mod CopyRows
mod DelayRows
