pub mod ByLength
pub mod Pairs
pub mod Rising
pub mod Steps
pub mod Reading
pub mod TokenSteps
mod Found
