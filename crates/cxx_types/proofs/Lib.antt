pub mod Building
pub mod Depths
pub mod Interning
pub mod Making
pub mod Nodes
pub mod Proper
pub mod Ranges
pub mod Reading
pub mod Rows
pub mod Steps
pub mod Told
mod TypeForm
