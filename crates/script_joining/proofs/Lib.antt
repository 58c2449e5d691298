pub mod Formed
pub mod Marked
pub mod Joined
pub mod Walked
