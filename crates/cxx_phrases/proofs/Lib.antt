pub mod Kept
pub mod Carried
pub mod Binary
pub mod Closing
