pub mod Answers
pub mod Bounds
