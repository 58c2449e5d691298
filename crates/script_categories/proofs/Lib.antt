pub mod Tables
pub mod Texts
pub mod Rising
pub mod Guesses
pub mod Walks
