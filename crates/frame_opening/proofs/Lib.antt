pub mod AcceptLaws
pub mod CheckedLaws
pub mod OpeningLaws
pub mod SessionLaws
