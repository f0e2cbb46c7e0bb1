pub mod Forbidden
pub mod Keeps
mod PlainRows
