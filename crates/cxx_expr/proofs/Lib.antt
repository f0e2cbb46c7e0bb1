mod BaseRows
pub mod Chained
pub mod Classed
pub mod Each
mod InitialRows
pub mod Kept
pub mod Letters
pub mod NodeKept
mod Rows
mod Sample
pub mod Splits
