pub mod inner
pub mod Lines
pub mod Names
pub mod Checks
pub mod Report
pub mod Theorems
