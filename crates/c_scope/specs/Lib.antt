pub mod Walk
pub mod Walks
pub mod Numbers
pub mod BuiltIns
pub mod Scopes
pub mod Declarations
pub mod Definitions
pub mod inner
