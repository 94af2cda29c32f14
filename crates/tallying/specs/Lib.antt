pub mod Text
pub mod Lined
pub mod Told
pub mod Laws
