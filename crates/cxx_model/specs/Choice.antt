pub mod Better
pub mod Standard
pub mod StandardOrder
