pub mod Accesses
pub mod Frames
pub mod Quiet
pub mod Turns
pub mod Views
