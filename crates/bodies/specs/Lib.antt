pub mod Bodies
pub mod Laws
