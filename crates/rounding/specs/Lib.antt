pub mod Rounding
pub mod Promises
pub mod Laws
