-- Standard conversions, their order, and built-in operators (clauses 4, 5 and 13.3.3).
pub mod Asking
pub mod Kinds
pub mod Derived
pub mod Enumerations
pub mod Standard
pub mod Order
pub mod Arithmetic
pub mod Pointers
pub mod BuiltIn
pub mod Sizes
pub mod Conditional
pub mod Casts
