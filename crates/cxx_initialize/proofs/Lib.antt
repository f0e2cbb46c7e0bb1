pub mod Each
pub mod Parts
pub mod Rooms
