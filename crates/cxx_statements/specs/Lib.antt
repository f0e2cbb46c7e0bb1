-- How statements are read.
pub mod Productions
pub mod Statements
pub mod Views
pub mod Making
pub mod Knot
pub mod Known
