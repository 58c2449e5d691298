pub mod MyanmarPermuted
pub mod Placing
pub mod MyanmarSteps
