pub mod Searching
pub mod Decimals
pub mod Runs
pub mod Options
pub mod Reading
pub mod Bytes
pub mod Writing
pub mod Grammar
