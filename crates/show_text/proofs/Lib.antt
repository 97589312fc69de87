pub mod Decimal
pub mod Described
pub mod Digits
pub mod Fields
pub mod Lengths
pub mod Writing
