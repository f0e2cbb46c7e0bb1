mod Closing
mod Others
mod Begins
pub mod Spaced
