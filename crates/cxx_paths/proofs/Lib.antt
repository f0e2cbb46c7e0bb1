pub mod Behind
pub mod Classed
pub mod Parts
pub mod Places
pub mod Several
pub mod Spaced
pub mod Stopping
pub mod Using
