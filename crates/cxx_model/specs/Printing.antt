pub mod Names
pub mod Reports
pub mod Written
