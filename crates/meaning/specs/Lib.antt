pub mod Action
pub mod Blocks
pub mod Legal
pub mod OpenCalls
pub mod Records
