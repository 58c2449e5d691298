pub mod Both
pub mod Rules
