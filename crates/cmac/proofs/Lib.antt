pub mod CmacLaws
pub mod DoublingLaws
pub mod LastBlockLaws
pub mod Subkeys
pub mod Turns
