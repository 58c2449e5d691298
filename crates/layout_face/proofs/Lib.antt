pub mod Fitting
pub mod VariationSearch
pub mod CharacterMap
pub mod MapLaws
