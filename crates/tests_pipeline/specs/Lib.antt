pub mod Decomposing
pub mod Refused
