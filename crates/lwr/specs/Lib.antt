pub mod Lwr
pub mod Requires
pub mod Laws
