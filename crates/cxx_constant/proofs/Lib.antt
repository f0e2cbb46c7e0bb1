pub mod Held
mod Rows
pub mod Scanned
pub mod Sound
pub mod Wholes
pub mod Wide
