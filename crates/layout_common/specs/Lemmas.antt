-- Lemmas.
pub mod Digests
