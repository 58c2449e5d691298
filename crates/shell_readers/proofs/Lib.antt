pub mod Bytes
pub mod Faults
pub mod Reading
pub mod Fonts
