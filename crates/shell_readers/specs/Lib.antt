pub mod Fault
pub mod Faults
pub mod Values
pub mod Tables
pub mod Input
pub mod Laws
