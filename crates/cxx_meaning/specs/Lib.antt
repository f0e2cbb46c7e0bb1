-- What names, conversions and operators mean, a folder for each layer.
pub mod Lookups
pub mod Conversions
