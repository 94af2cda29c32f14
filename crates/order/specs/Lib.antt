pub mod Order
pub mod Spelled
pub mod Laws
