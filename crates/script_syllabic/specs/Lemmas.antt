-- Lemmas on rules of syllables.
pub mod Sizes
