mod LookupRows
mod AssociatedRows
mod Conversions
pub mod Reached
pub mod Ways
pub mod Nearest
pub mod Searched
pub mod Subobjects
pub mod Seen
pub mod Counted
pub mod Ordered
