pub mod Characters
pub mod Orders
pub mod Chains
pub mod Decisions
pub mod Expansions
mod Faults
pub mod Seconds
pub mod Steps
pub mod Syllables
