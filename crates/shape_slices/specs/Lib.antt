pub mod Fitting
pub mod Runs
pub mod Deciding
pub mod Walk
pub mod Laws
