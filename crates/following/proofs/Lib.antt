pub mod Laws
pub mod Alone
pub mod Carry
