pub mod Values
pub mod Header
pub mod Line
pub mod Advances
pub mod Boxes
pub mod Extents
pub mod Origins
