pub mod Kept
pub mod Known
pub mod Nesting
mod Rows
