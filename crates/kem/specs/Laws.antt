pub mod Kem
pub mod Rejection
