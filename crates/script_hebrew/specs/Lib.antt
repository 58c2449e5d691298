pub mod Hebrew
pub mod Neighbours
pub mod MarkOrder
