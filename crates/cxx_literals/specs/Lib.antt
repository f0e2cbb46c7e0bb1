pub mod Escapes
pub mod Floats
pub mod Integers
