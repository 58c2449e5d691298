-- Lemmas on what the shapers of the stack do.
pub mod Keeping
pub mod Splits
pub mod Orders
pub mod Limits
