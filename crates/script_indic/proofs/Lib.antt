mod Composed
mod Flagless
pub mod Keeping
pub mod Splits
pub mod Missing
