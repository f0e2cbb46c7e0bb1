-- What a printed text reads as.
pub mod Line
pub mod Printable
pub mod Ends
pub mod ReadsAs
