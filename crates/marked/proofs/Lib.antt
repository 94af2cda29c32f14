pub mod Night
pub mod Marked
