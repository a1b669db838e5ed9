pub mod Ensures
pub mod Laws
