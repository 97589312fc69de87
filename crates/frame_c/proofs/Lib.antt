mod Buildings
mod FieldBytes
mod Fillings
mod Opened
pub mod StoredLaws
pub mod TestedLaws
