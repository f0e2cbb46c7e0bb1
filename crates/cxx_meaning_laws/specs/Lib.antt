pub mod Subsequences
pub mod Converting
pub mod Ranks
