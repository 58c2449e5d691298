pub mod Widths
pub mod RunRows
pub mod Pushes
pub mod Texts
