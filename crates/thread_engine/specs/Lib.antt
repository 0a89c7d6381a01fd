pub mod State
pub mod Sound
pub mod Quiet
pub mod Accesses
pub mod inner
