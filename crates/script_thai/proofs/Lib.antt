pub mod Shaped
pub mod Counted
pub mod Vowel
pub mod Vowels
pub mod PrivateForms
