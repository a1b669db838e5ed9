pub mod Put
pub mod Places
pub mod Base
