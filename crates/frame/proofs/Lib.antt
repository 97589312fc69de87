pub mod LayoutLaws
pub mod Others
pub mod PackedFields
pub mod PackedLaws
pub mod ReadingLaws
pub mod ReadingSteps
