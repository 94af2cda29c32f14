pub mod Following
pub mod Lent
pub mod Laws
