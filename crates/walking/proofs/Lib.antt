pub mod Stepping
pub mod Tests
