pub mod Nesting
mod Rows
