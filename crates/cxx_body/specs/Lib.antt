-- The bodies of functions, in the code.
pub mod Opened
