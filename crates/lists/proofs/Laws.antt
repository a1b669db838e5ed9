pub mod Booleans
pub mod Bits
pub mod Lists
pub mod Numbers
pub mod Strings
pub mod Parts
pub mod Fill
