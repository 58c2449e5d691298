pub mod Lemmas
pub mod Myanmar
pub mod Turned
pub mod Pauses
pub mod Requests
