pub mod Holds
pub mod Classes
pub mod Theorems
pub mod inner
