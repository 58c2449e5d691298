pub mod Run
pub mod Program
