-- Lemmas on the rules of a syllable.
pub mod Sizes
pub mod MyanmarSize
