pub mod Puts
pub mod Records
pub mod Places
pub mod Placing
pub mod Judges
pub mod Agrees
