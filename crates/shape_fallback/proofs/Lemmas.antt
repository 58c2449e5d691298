-- Lemmas.
pub mod Unmarked
pub mod MarkPositions
