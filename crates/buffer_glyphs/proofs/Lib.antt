pub mod OneDeleted
pub mod Least
mod Examples
pub mod Parts
pub mod Ends
pub mod Joined
pub mod Even
pub mod Across
pub mod EndRuns
pub mod FirstDeleted
pub mod RunFlags
pub mod Deleted
pub mod DeletedOrigins
pub mod Lists
pub mod Merging
