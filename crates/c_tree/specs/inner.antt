pub mod FoldEquations
pub mod FoldStatementsEquations
pub mod PrintedParts
pub mod Appended
