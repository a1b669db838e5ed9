pub mod Kdf
pub mod Laws
