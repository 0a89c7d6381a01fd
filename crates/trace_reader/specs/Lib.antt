pub mod FullText
pub mod Theorems
pub mod inner
