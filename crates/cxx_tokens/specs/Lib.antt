pub mod MarkerWords
pub mod Pieces
pub mod Answers
