pub mod Again
pub mod ConstantRows
pub mod Converted
pub mod Exact
pub mod Held
pub mod Ranged
pub mod Wide
