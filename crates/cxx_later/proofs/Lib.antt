pub mod Adding
pub mod AddingDefaults
pub mod Closing
pub mod Gathered
pub mod Kept
pub mod KeptDefaults
