pub mod Rising
pub mod Grouping
pub mod Inserting
pub mod Threading
pub mod Bits
