pub mod Walks
pub mod Records
pub mod Places
pub mod Laws
