pub mod Determined
pub mod Views
