pub mod Computes
pub mod Formulas
pub mod Laws
pub mod Values
