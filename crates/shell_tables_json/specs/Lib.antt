pub mod Rows
pub mod Characters
pub mod Syllables
pub mod Unicode
pub mod Deep
pub mod Languages
pub mod Split
