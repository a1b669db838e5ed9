pub mod Products
pub mod Promises
pub mod Requires
pub mod Laws
