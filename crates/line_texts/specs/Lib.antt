pub mod Pieces
pub mod Texts
pub mod Places
pub mod Laws
