pub mod SpellingIsKept
pub mod Expressions
pub mod Statements
pub mod Texts
