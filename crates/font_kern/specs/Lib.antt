pub mod Subtables
pub mod Pairs
pub mod Classes
pub mod Kerning
pub mod Lookups
pub mod Scripts
pub mod Marks
pub mod Kern
