pub mod Example
pub mod Errors
pub mod Range
pub mod Agreement
pub mod Bit
pub mod Theorem
pub mod Flat
