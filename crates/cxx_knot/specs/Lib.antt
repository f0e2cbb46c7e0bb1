-- How the readers of declarations and those of expressions nest.
pub mod Readers
pub mod Knot
