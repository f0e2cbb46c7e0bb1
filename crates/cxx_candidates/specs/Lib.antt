pub mod Candidates
pub mod Rows
pub mod Shapes
pub mod Sources
