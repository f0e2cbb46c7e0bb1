pub mod Defining
pub mod Ended
pub mod Kept
pub mod Numbered
pub mod Reserved
pub mod Rows
pub mod Stored
