pub mod Made
pub mod Read
pub mod Said
