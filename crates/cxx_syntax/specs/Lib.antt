pub mod Suffixes
pub mod Outlines
pub mod Layering
pub mod Parameters
