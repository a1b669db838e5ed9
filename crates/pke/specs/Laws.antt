pub mod Pke
pub mod Lengths
