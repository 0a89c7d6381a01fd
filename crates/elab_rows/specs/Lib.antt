pub mod Made
pub mod Units
pub mod Choices
pub mod Rows
pub mod Addresses
pub mod Calls
pub mod Scope
pub mod Values
