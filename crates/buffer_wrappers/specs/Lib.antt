pub mod Pen
pub mod Printed
pub mod Shown
pub mod Wrappers
