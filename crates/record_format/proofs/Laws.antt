pub mod Fields
pub mod Doors
pub mod Records
pub mod Heads
pub mod Calls
pub mod Maps
pub mod Before
