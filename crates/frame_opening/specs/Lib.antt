pub mod CheckedOpening
pub mod FrameOpening
pub mod JoinAcceptOpening
pub mod SessionKeys
