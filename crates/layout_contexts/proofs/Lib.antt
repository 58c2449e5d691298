pub mod Lemmas
pub mod Shifted
pub mod Fitted
pub mod Followed
pub mod Beside
pub mod Matching
pub mod Unflagged
pub mod Cuts
pub mod Settled
pub mod Begun
mod Beginning
