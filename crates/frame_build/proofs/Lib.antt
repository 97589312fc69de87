pub mod DataBuiltLaws
pub mod DataHeader
pub mod DataRefusals
pub mod FirstTest
pub mod GivenBytes
pub mod JoinBodies
pub mod JoinBuiltLaws
