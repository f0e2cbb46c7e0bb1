mod Rows
pub mod Lining
pub mod Indents
pub mod Trees
pub mod Parts
pub mod Printing
pub mod Declaring
pub mod Firsts
pub mod Counts
pub mod Conditional
pub mod Calling
