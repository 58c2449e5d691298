pub mod ThaiPrivate
pub mod ThaiGlyphs
pub mod ThaiVowel
pub mod Texts
