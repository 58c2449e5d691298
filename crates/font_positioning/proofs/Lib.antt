pub mod KeptRows
pub mod PairSets
