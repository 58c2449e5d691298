pub mod Lemmas
pub mod Alike
mod Spread
mod Sets
mod Begun
mod Placed
mod Classed
mod KnownGlyphs
mod Unlinked
mod Ended
mod Phases
mod Whole
mod Budget
pub mod Numbers
pub mod Shaped
pub mod Serving
mod Texts
pub mod Agreeing
