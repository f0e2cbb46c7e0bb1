pub mod Subsequences
pub mod Words
pub mod Levels
pub mod Meeting
pub mod Operands
pub mod Arms
pub mod Identity
pub mod Grouping
pub mod Ranking
mod Rows
mod Bases
mod Ranks
