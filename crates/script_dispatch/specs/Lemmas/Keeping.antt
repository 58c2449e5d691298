-- Lemmas on rules that keep the parts of a text.
pub mod Thai
pub mod Hangul
pub mod Syllables
pub mod Orders
pub mod Masks
