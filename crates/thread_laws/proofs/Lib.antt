pub mod Bodies
pub mod FittingValues
pub mod FittingFrames
pub mod Successors
pub mod Readiness
pub mod Places
pub mod Turns
pub mod Runs
