pub mod Widths
pub mod Grids
pub mod Finding
pub mod Drawing
pub mod Laws
pub mod Walk
pub mod Graphemes
