-- The plain form of statements: the lines of each, at a depth of indentation.
pub mod Productions
pub mod Forms
pub mod Objects
pub mod Statements
pub mod Calls
pub mod Written
pub mod Listed
