pub mod Glyphs
pub mod Single
pub mod Sequence
pub mod Ligature
pub mod Reverse
