pub mod Stems
pub mod Words
mod Rows
