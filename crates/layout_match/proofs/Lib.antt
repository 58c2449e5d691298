pub mod Lemmas
pub mod Indexed
pub mod Each
pub mod Own
pub mod Law
pub mod Words
pub mod Next
pub mod Beside
