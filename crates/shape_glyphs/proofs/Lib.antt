pub mod Ended
pub mod Selected
pub mod Shown
