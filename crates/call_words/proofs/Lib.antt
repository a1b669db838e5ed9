pub mod Split
pub mod Dash
pub mod Digits
