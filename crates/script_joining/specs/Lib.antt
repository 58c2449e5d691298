pub mod Lemmas
pub mod Types
pub mod Forms
pub mod Joining
pub mod Glyphs
pub mod Flagged
pub mod Walked
pub mod Laws
