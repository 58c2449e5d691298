-- Lemmas on the rules of a syllable.
pub mod Indices
pub mod InitialSize
pub mod FinalSize
pub mod InitialPermuted
