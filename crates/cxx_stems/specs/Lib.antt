-- The stems of declared names.
pub mod Names
