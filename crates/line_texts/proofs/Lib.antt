pub mod Fits
pub mod Joins
pub mod Cuts
pub mod Places
pub mod Whole
pub mod Canonical
pub mod Tellings
