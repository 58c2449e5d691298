pub mod Lemmas
pub mod Mapped
pub mod GlyphNumbers
pub mod Loops
mod Placing
pub mod Halves
pub mod Moved
pub mod Put
pub mod Front
pub mod SyllableWalks
pub mod TurnedBack
pub mod GroupOrder
pub mod Reversed
pub mod SortRewrites
pub mod Bytewise
pub mod Joined
