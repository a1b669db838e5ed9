pub mod Lay
pub mod Fold
pub mod Single
