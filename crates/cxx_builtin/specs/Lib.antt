pub mod Built
pub mod Plans
