pub mod AcceptBlocks
pub mod MicCompared
pub mod MicLaws
pub mod SealingLaws
pub mod SecurityLaws
