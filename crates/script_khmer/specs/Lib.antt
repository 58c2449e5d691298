pub mod Lemmas
pub mod Khmer
pub mod Runs
pub mod Masks
pub mod Pauses
pub mod Requests
