pub mod Alike
pub mod Pours
