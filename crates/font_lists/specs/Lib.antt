pub mod Definition
pub mod Tagged
pub mod Scripts
pub mod Variations
pub mod Features
pub mod Lookups
pub mod Header
