pub mod Places
pub mod Views
pub mod Sighted
pub mod Ways
pub mod Tables
pub mod Answers
