pub mod Field
pub mod Fips197
pub mod KeyExpansion
