pub mod Characters
pub mod Decides
