-- What of a class is read where the outermost class has ended.
pub mod Passing
pub mod Defaults
pub mod Kept
pub mod FoundDefaults
pub mod Waiting
pub mod Views
pub mod Found
