pub mod This
pub mod Begun
pub mod Made
