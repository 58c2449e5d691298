pub mod Joins
pub mod Lookups
pub mod Positioning
pub mod Lemmas
