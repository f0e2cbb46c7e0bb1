pub mod Again
pub mod Answers
pub mod Outcome
pub mod Outcomes
pub mod Run
pub mod Shown
pub mod Streams
