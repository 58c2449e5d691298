pub mod Units
pub mod Characters
pub mod Texts
