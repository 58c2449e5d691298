mod Words
mod Passing
mod Pushed
mod Shapers
mod Begun
mod Chosen
mod Limits
mod Alike
mod Budget
mod Plain
pub mod BreakLemmas
