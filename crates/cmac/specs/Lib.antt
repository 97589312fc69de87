pub mod Doubling
pub mod LastBlock
pub mod Rfc4493
pub mod Running
