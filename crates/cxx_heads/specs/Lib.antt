-- How a statement begins: whether a declaration stands there, or an expression.
pub mod Heads
