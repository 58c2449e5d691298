pub mod LookupIndices
pub mod Lookups
pub mod Glyphs
pub mod CharacterMap
pub mod Indices
pub mod Names
pub mod WouldApply
pub mod WouldApplyLookups
