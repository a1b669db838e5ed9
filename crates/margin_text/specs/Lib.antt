pub mod Report
pub mod Laws
