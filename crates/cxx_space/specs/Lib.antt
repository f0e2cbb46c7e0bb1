-- The declarations of namespaces, in the code.
pub mod Parts
pub mod Views
pub mod Bases
pub mod Classes
pub mod Behind
pub mod Friends
