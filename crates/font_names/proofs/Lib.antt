pub mod Rows
pub mod Starts
pub mod Latin
