pub mod Rows
pub mod Boxed
