pub mod Direct
pub mod Laws
pub mod Paths
pub mod Reached
pub mod Steps
pub mod Table
