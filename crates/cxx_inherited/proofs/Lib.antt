pub mod Awaiting
pub mod Declaring
mod Examples
pub mod Holding
pub mod Joining
pub mod Keeping
pub mod Leading
pub mod Linking
pub mod Reaching
