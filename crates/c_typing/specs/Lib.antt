pub mod Statements
pub mod Functions
pub mod Sources
pub mod Checks
pub mod Theorems
pub mod inner
