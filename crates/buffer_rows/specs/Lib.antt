pub mod Keys
pub mod Pages
pub mod Dense
pub mod KeyOrder
pub mod Laws
