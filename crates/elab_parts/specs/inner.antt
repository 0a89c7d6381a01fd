pub mod Behind
pub mod Lists
pub mod Nodes
