-- Lemmas for shapers that leave a text as it is.
pub mod Unchanged
pub mod Arranged
pub mod Limits
