pub mod Held
pub mod Sides
pub mod Put
pub mod Listing
pub mod Texts
pub mod Integers
