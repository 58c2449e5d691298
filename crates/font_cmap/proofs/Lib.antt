pub mod Steps
pub mod Rising
pub mod Exact
pub mod Varied
