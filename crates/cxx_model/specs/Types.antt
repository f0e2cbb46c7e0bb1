pub mod Bases
pub mod Code
pub mod Copies
pub mod Integral
pub mod Numbers
pub mod Proper
pub mod Same
pub mod Trees
