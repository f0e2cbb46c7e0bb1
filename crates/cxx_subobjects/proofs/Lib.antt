pub mod Amount
pub mod Counting
pub mod Elements
pub mod Joining
pub mod Rising
mod Rows
pub mod Sharing
pub mod Trail
pub mod Walking
