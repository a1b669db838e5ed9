pub mod Digit
