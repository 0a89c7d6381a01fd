pub mod FullLines
pub mod ItemTexts
pub mod LinesAreRead
pub mod TracesAreBuilt
