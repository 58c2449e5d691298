pub mod Substitution
pub mod Positioning
pub mod Layout
