pub mod Values
pub mod Moving
pub mod Singles
pub mod Pairs
pub mod Anchors
pub mod Marks
pub mod Bases
pub mod Lemmas
