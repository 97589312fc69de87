pub mod JoinAcceptCipher
pub mod Mic
pub mod Sealing
pub mod Security
