pub mod Laws
pub mod Changes
pub mod Counts
pub mod Steps
