pub mod Split
mod Means
mod RisingKeys
pub mod Inverted
mod Limits
mod LayoutFits
mod ClassesFit
pub mod FaceFits
mod OfText
