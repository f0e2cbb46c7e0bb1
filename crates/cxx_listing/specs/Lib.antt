pub mod Calls
pub mod Lines
pub mod Listing
pub mod Views
