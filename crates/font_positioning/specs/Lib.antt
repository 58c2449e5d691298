pub mod Values
pub mod Anchors
pub mod Single
pub mod Pairs
pub mod ClassPairs
pub mod Cursive
pub mod Marks
