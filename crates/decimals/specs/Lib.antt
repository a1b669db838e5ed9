pub mod Decimals
pub mod Signed
pub mod Places
pub mod Ensures
pub mod Laws
