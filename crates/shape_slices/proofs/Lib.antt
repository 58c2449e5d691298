pub mod Walked
pub mod Borders
pub mod Starts
pub mod Fits
pub mod Covered
pub mod Flags
mod Examples
