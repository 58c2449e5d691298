pub mod Fault
pub mod Cell
pub mod Rows
pub mod Objects
pub mod Items
pub mod TextValues
