pub mod Expressions
pub mod Jumps
pub mod Leaves
pub mod Pieces
