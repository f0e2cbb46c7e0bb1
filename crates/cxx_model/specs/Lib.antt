pub mod Text
pub mod Types
pub mod Facts
pub mod Choice
pub mod Stops
pub mod Printing
