pub mod Packing
pub mod Promises
pub mod Requires
pub mod Laws
