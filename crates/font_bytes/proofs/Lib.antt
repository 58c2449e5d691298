mod Numbers
pub mod Inverted
pub mod Recorded
