pub mod Line
pub mod Requires
pub mod Laws
