pub mod Dates
pub mod Reading
pub mod Laws
pub mod Samples
