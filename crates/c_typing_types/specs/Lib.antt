pub mod Types
pub mod Filled
pub mod Theorems
