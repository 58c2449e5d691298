pub mod Turns
pub mod Covered
