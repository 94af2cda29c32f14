pub mod Book
pub mod Told
pub mod Meaning
pub mod Wafers
