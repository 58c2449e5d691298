pub mod Dict
pub mod Header
pub mod Selects
pub mod Charset
pub mod Fonts
pub mod Outlines
pub mod Names
pub mod Glyphs
