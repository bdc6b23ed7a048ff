pub mod Beginning
pub mod OneFunction
pub mod SmallFrames
pub mod Chain
pub mod LaidOut
pub mod NumbersFit
pub mod FrameLaws
