pub mod Found
pub mod Jumps
pub mod Registers
pub mod Search
