pub mod Packing
pub mod Cutting
pub mod Lengths
pub mod Polynomials
