pub mod First
pub mod Places
pub mod Texts
pub mod Told
pub mod Laws
