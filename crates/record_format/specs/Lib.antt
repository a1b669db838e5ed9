pub mod Records
pub mod Before
pub mod Promises
pub mod Ensures
