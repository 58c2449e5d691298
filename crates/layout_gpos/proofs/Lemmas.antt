-- Lemmas.
pub mod Read
pub mod Nearest
pub mod Placed
pub mod Performed
pub mod Left
pub mod Taken
pub mod Passed
pub mod Kept
