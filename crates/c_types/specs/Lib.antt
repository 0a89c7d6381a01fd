pub mod Kinds
pub mod Parts
pub mod Same
pub mod Structs
pub mod Units
pub mod Sound
pub mod Theorems
pub mod inner
