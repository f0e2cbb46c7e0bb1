-- The questions of expressions, answered by the declarations so far.
pub mod Answers
pub mod Bare
pub mod Besides
pub mod Defaults
pub mod Members
pub mod Named
pub mod Objects
pub mod Ruled
pub mod Told
pub mod Typed
