pub mod Lookups
pub mod Steps
pub mod Substituting
