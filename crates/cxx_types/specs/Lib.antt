pub mod Levels
pub mod Makes
pub mod Parameters
pub mod Sizes
pub mod Table
pub mod Trees
