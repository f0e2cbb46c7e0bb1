pub mod Constants
pub mod Forms
pub mod Given
pub mod Known
