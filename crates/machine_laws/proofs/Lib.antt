pub mod Splits
pub mod Calls
pub mod History
pub mod Turns
pub mod Events
pub mod Values
pub mod Frames
pub mod Flow
