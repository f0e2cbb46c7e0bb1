pub mod Spreading
pub mod Shows
pub mod Searching
pub mod Outward
