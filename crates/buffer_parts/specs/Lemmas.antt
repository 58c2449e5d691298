-- Lemmas for the laws.
pub mod Orderly
pub mod CharacterParts
pub mod Least
pub mod Slices
pub mod Groups
pub mod Deletions
pub mod Turns
pub mod Counts
pub mod Ligatures
pub mod Keeping
pub mod Plainly
pub mod Alike
pub mod Counting
pub mod Stages
pub mod Steady
pub mod PlainStages
