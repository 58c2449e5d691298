-- Lemmas for higher crates: rules on buffers, stages that write glyphs one by one, moves, syllables that are rewritten.
pub mod Written
pub mod Moves
pub mod Alone
pub mod Nested
pub mod Fronted
pub mod Ordered
pub mod Shifts
pub mod Rewritings
pub mod Parts
pub mod Permuted
pub mod Numbers
pub mod Sorted
