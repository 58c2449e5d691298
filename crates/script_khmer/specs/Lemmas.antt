-- Lemmas on the rules of a syllable.
pub mod KhmerSize
pub mod Forms
