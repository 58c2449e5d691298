pub mod Chosen
pub mod Lookups
pub mod Features
pub mod Compiled
pub mod Masks
pub mod Requests
pub mod Laws
pub mod TagSlots
