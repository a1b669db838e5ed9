pub mod Binomial
pub mod Laws
