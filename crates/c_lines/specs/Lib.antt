pub mod Numbers
pub mod Lines
pub mod Carets
pub mod Checked
