pub mod Order
pub mod Tally
pub mod Once
pub mod Packed
