pub mod Lookup
pub mod Numbers
pub mod Promises
pub mod Laws
