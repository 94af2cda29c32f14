pub mod Results
pub mod Packed
pub mod Laws
