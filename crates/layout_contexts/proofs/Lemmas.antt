-- Lemmas.
pub mod Steps
pub mod Lengths
pub mod Rising
pub mod Walks
pub mod Inside
pub mod Acting
pub mod Subtables
pub mod Nested
pub mod Uncovered
pub mod Ranges
pub mod Following
pub mod LeftOut
