pub mod CandidateRows
pub mod Following
pub mod Gathered
pub mod InTurn
pub mod Made
pub mod Shaped
pub mod Viewed
