pub mod Chains
pub mod AbstractDeclarators
pub mod Declarators
pub mod Specs
pub mod Parts
pub mod PartsFit
pub mod Expressions
pub mod ReadersAreSound
