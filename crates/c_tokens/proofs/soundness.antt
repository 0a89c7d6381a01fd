pub mod Blanks
pub mod Numbers
pub mod Tokens
pub mod Texts
