pub mod Values
pub mod Constant
pub mod inner
