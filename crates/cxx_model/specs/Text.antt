pub mod Continuing
pub mod Lexemes
pub mod Spelling
pub mod Tokens
