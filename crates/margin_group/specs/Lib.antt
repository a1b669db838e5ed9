pub mod Margin
pub mod Requires
pub mod Laws
