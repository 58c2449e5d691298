pub mod Pen
pub mod Boxes
pub mod Paths
pub mod Numbers
pub mod Index
pub mod Operators
pub mod Machine
