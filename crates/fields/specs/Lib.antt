pub mod Fields
pub mod Numbers
pub mod Reading
pub mod Theorems
pub mod inner
