pub mod Arguments
pub mod Taken
pub mod Refused
pub mod FeatureValues
