-- Lemmas.
pub mod Uncovered
