pub mod Moves
pub mod Walks
pub mod Cuts
