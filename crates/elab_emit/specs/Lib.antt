pub mod Emits
pub mod Held
pub mod Holes
pub mod inner
