pub mod Worlds
pub mod Theorems
pub mod inner
