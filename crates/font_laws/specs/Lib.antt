pub mod RowCounts
pub mod Lists
pub mod Contexts
pub mod Substitutions
pub mod Positions
pub mod Bounds
pub mod Laws
