pub mod Bytes
pub mod Words
pub mod Spell
pub mod Blank
pub mod Lex
pub mod Answer
pub mod Theorems
pub mod inner
