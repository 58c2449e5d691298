pub mod Face
pub mod Table
