pub mod InTurn
pub mod Tables
pub mod OfKeys
pub mod Definitions
pub mod Sets
pub mod Fonts
