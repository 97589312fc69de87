pub mod Conditions
pub mod Faults
pub mod JoinFields
pub mod Layout
pub mod PackedReading
pub mod Reading
pub mod ReadingNumbers
pub mod Refusals
