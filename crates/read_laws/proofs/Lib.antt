pub mod Tells
pub mod CodeReads
pub mod CallReads
pub mod ReadRuns
