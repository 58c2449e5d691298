pub mod Skipping
pub mod BreakLemmas
pub mod Lemmas
