pub mod Categories
pub mod Characters
pub mod Config
pub mod FontForms
pub mod Masks
pub mod Reordering
pub mod Requests
pub mod WouldSubstitute
