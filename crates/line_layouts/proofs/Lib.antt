pub mod Arranging
pub mod Tables
pub mod Laid
pub mod Fills
pub mod Faults
pub mod Given
pub mod Samples
