pub mod Decryption
pub mod Steps
pub mod Theorem
