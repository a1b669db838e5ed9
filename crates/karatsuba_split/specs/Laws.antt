pub mod Sums
pub mod Join
pub mod Level
pub mod Scratch
