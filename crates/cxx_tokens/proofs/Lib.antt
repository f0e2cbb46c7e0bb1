pub mod Pieces
pub mod Pushes
pub mod Scans
pub mod Steps
pub mod Lines
pub mod Shorter
pub mod Signs
