pub mod Paths
pub mod Reached
pub mod Rows
pub mod Tables
pub mod Views
pub mod Ways
