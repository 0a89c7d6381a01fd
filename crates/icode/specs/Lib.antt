pub mod Sites
pub mod Theorems
pub mod inner
