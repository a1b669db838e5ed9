pub mod Counts
pub mod Measures
pub mod Enough
pub mod Claim
pub mod Example
