pub mod Lemmas
pub mod Paired
pub mod Attached
pub mod MarkMark
pub mod MarkLig
pub mod Kept
pub mod Sought
