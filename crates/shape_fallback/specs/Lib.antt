pub mod Classes
pub mod Spaces
pub mod Zeroing
pub mod Boxes
pub mod Bases
pub mod Around
pub mod Marks
