pub mod Again
pub mod Associated
pub mod Here
pub mod Nowhere
pub mod Rows
pub mod Views
