pub mod Needed
pub mod Walk
pub mod Laws
