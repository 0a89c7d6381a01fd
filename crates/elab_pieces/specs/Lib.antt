pub mod Lines
pub mod Initialisers
pub mod Statements
pub mod Functions
pub mod Globals
pub mod Entry
pub mod Program
pub mod Limits
