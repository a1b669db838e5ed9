pub mod Hashes
pub mod Promises
