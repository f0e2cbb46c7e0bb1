mod Rows
pub mod Gathering
pub mod Loops
pub mod Converting
pub mod InTurn
pub mod Contests
pub mod InWords
pub mod Reasons
pub mod Numbers
pub mod Narrowed
pub mod Deciding
pub mod Keeping
