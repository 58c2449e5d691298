pub mod Searches
pub mod Widened
pub mod Faults
pub mod Pairs
mod Steps
