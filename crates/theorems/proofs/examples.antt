pub mod ByList
pub mod Commands
pub mod Fips197
pub mod ProvedTable
pub mod Rfc4493
pub mod ShownText
