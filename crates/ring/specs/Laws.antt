pub mod Columns
pub mod Products
