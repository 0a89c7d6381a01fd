pub mod Copies
pub mod Elements
pub mod Places
pub mod Results
