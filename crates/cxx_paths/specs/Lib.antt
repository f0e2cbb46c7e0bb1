pub mod Asked
pub mod Behind
pub mod Using
