pub mod Reading
pub mod Views
pub mod Asking
pub mod Words
pub mod Making
pub mod Looping
pub mod Outlines
pub mod Passing
