pub mod Bodies
pub mod Initialised
pub mod inner
