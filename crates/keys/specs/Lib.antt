pub mod Keys
pub mod Promises
pub mod Requires
pub mod Ensures
pub mod Laws
