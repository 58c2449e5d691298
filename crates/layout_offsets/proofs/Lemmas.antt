-- Lemmas.
pub mod Linked
pub mod Turned
pub mod Joined
pub mod Summing
