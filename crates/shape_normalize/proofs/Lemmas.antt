-- Lemmas.
pub mod Chain
pub mod Refusals
