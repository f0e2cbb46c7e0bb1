pub mod Members
pub mod Makes
pub mod Noted
pub mod Rows
