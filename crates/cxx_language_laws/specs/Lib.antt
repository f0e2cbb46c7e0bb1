-- What holds of every reading of a unit with expressions.
pub mod Best
pub mod Stopping
pub mod Told
