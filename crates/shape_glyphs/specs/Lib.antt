pub mod Glyphs
pub mod Ignorables
pub mod Flags
pub mod Widths
pub mod Selectors
pub mod Advances
