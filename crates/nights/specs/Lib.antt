pub mod Night
pub mod Laws
pub mod Assured
pub mod Spelled
pub mod Told
pub mod Telling
