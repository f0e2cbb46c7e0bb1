pub mod Champions
pub mod Counting
