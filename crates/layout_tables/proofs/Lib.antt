pub mod PairRuns
pub mod Covering
mod CoveredRows
mod Begins
pub mod Required
