pub mod Command
pub mod Levee
pub mod Outcome
pub mod Refusal
pub mod Source
pub mod Status
pub mod Theorems
pub mod inner
