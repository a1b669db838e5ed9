pub mod Halves
pub mod Sampling
pub mod Lengths
