-- Lemmas.
pub mod Jumped
