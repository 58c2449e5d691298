pub mod Tables
pub mod Texts
pub mod Cuts
pub mod Laws
pub mod ManyCuts
