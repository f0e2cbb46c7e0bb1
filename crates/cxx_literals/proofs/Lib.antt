pub mod Amounts
pub mod Escaping
