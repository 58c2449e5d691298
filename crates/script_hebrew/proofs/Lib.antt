pub mod Swapped
pub mod MarkCounts
pub mod MarksPlaced
