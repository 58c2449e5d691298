-- Lemmas.
pub mod Nearest
pub mod Met
pub mod Passage
pub mod Steps
pub mod Stages
pub mod Untouched
pub mod Held
pub mod Idle
pub mod Runs
