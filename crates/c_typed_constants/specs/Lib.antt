pub mod Words
pub mod Theorems
