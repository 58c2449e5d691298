pub mod Shapers
pub mod Stages
pub mod Texts
pub mod Laws
pub mod PlainTexts
pub mod Breaks
