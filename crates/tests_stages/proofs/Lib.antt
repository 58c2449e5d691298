pub mod Ready
pub mod Masks
