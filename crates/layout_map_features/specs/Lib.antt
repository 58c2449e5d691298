pub mod Tables
pub mod Groups
pub mod Entering
pub mod Requests
pub mod Lookups
pub mod Required
pub mod Fields
pub mod Laws
