pub mod Tag
pub mod Script
pub mod Direction
pub mod Constants
pub mod Language
pub mod ScriptTags
