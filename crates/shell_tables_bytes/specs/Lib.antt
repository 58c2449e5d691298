pub mod Faults
pub mod Sections
pub mod Records
pub mod Characters
pub mod Machines
pub mod Languages
