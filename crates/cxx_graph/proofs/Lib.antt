pub mod Awaiting
pub mod Classes
pub mod Keeping
pub mod Marks
pub mod Rowed
pub mod Same
mod Clashing
mod ConflictRows
mod Conflicting
pub mod Fitting
pub mod GraphRange
