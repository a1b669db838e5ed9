pub mod Lwr
