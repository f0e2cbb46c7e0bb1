pub mod Tables
pub mod Shapes
pub mod Longest
pub mod Ends
pub mod ReadLines
pub mod Names
pub mod Numbers
pub mod ReadWords
pub mod Tails
pub mod Printed
pub mod Types
pub mod PlainForm
mod Rows
