pub mod Pointers
pub mod Handles
pub mod FontHandles
pub mod TablesHandles
mod Fonts
mod Plans
pub mod Slices
mod Putting
pub mod Writing
mod FeatureTexts
pub mod Scaling
mod Advancing
mod SettingGlyphs
mod Replacing
