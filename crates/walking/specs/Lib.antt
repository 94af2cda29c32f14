pub mod Walking
pub mod Passing
pub mod Lent
