pub mod Reached
pub mod Views
