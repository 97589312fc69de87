pub mod FrameFields
pub mod Parts
pub mod ViewNumbers
pub mod Viewed
