pub mod Appending
pub mod Characters
pub mod Numerals
pub mod ReadBack
pub mod Steps
