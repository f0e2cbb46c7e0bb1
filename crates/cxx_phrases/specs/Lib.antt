-- How expressions and initializers are read: what is asked while they are, and each production of clause 5 and of 8.5.
pub mod Productions
pub mod Operators
pub mod Phrases
pub mod Forms
pub mod Brackets
pub mod Arguments
pub mod Primary
pub mod Operands
pub mod Levels
pub mod Initializers
pub mod Knot
pub mod Views
pub mod Making
