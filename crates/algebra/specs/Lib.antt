pub mod Integers
pub mod Ring
pub mod Columns
pub mod Halves
pub mod Vectors
