pub mod FctrlBits
pub mod Views
