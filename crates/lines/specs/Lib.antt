pub mod Writing
pub mod Reading
pub mod Laws
pub mod Numbers
