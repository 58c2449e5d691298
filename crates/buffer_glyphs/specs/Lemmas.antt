-- Lemmas for the laws and the steps.
pub mod Chains
pub mod Drawn
pub mod Numbers
pub mod Unions
pub mod Parts
pub mod Ends
pub mod Merges
pub mod Deletions
pub mod Glyphs
pub mod Replacements
pub mod Origins
pub mod Sorts
pub mod EventParts
pub mod Handed
