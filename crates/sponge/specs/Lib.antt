pub mod Sponge
pub mod Laws
