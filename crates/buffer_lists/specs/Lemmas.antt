-- Lemmas.
pub mod GroupsTurned
pub mod KeyOrder
pub mod Picked
