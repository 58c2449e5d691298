pub mod Words
pub mod Texts
pub mod Begun
pub mod Chosen
pub mod Glyphs
pub mod CharacterPositions
pub mod Whole
pub mod Shown
