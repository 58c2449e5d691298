-- Lemmas on where glyphs come from once letters are joined.
pub mod Steady
