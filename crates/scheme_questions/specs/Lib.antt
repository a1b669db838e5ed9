pub mod Questions
pub mod Requires
pub mod Laws
