pub mod Tails
pub mod Views
