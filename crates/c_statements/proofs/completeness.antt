pub mod StatementsBegin
pub mod Declarations
pub mod Statements
