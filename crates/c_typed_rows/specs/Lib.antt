pub mod Contexts
pub mod Expressions
pub mod Initialisers
pub mod Statements
pub mod Sources
pub mod Types
