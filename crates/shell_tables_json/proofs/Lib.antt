pub mod Orders
mod Keys
pub mod Shallow
pub mod Texts
mod Split
