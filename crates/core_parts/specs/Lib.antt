pub mod Places
pub mod Pieces
pub mod Outlines
pub mod Theorems
