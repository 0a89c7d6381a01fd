pub mod Pieces
pub mod Numbers
pub mod Kinds
pub mod Tokens
pub mod Texts
