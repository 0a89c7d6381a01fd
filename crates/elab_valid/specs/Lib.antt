pub mod Types
pub mod Sources
pub mod Theorems
