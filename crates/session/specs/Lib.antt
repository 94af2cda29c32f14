pub mod Session
pub mod Verdicts
pub mod Laws
