pub mod Tokens
pub mod Values
