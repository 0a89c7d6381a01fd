pub mod DeclaratorNames
pub mod NameCounts
pub mod Passing
pub mod LinesOfOne
pub mod Counting
pub mod FunctionsLeft
pub mod Programs
pub mod OneReport
