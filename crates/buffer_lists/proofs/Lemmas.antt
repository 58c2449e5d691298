-- Lemmas.
pub mod Flags
pub mod DeletedEvents
pub mod KeptItems
pub mod Neighbours
pub mod OrderSpans
pub mod Ranges
pub mod Regrouped
pub mod ReversedEvents
pub mod SortedEvents
pub mod SortedItems
pub mod Turned
