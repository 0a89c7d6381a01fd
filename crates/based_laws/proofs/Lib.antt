pub mod Decisions
pub mod Known
pub mod Reached
pub mod Ready
pub mod ReadyThreads
pub mod Accesses
