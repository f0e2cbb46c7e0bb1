mod Longer
pub mod Layering
