pub mod Cached
pub mod Cache
