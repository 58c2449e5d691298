pub mod Answers
pub mod Breaks
