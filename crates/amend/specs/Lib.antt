pub mod Amending
pub mod AmendmentLists
pub mod OpenFrame
pub mod SignedOnce
