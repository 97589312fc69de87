pub mod Kept
pub mod WholeList
