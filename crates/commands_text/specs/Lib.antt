pub mod Text
pub mod Within
