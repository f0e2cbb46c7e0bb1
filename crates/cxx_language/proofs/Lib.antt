pub mod Further
pub mod Parts
