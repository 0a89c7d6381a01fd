pub mod Field
pub mod Kept
