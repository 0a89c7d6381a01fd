pub mod Added
pub mod SameRecords
pub mod Places
pub mod Shown
