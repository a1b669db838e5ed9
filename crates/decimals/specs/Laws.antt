pub mod Places
pub mod Decimals
pub mod Signs
pub mod Texts
pub mod Pieces
pub mod Undone
