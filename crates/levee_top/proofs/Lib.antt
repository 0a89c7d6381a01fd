pub mod FailureLemmas
pub mod GoodRuns
pub mod OneOutcome
pub mod OneSource
pub mod OutcomeLemmas
pub mod RefusalLines
pub mod Stages
