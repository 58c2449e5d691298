pub mod StageSteps
pub mod Listed
pub mod StageEnds
pub mod Sorted
pub mod Compiling
pub mod Flagless
pub mod Apart
mod Slotted
