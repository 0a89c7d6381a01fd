pub mod Leaves
pub mod Initialisers
pub mod Declarations
pub mod inner
