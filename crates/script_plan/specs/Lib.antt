pub mod Lemmas
pub mod Common
pub mod Requests
pub mod NormalModes
pub mod Traits
pub mod Plans
pub mod Fits
pub mod Rules
