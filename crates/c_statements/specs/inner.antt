pub mod Nests
pub mod Readers
