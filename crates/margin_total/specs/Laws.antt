pub mod Group
pub mod Groups
