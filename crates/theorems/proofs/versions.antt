pub mod Refuted
pub mod TwoFrames
