pub mod Arrays
pub mod Rules
pub mod Contexts
