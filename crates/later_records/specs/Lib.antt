pub mod Later
pub mod Results
pub mod Laws
