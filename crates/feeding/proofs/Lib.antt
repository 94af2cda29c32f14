pub mod Alike
pub mod Door
