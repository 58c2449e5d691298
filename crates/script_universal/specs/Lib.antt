pub mod Lemmas
pub mod Reordering
pub mod Walked
pub mod Categories
pub mod Masks
pub mod Pauses
pub mod Requests
