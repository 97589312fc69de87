pub mod Commands
pub mod InFrame
pub mod Layout
pub mod Lists
pub mod Table
