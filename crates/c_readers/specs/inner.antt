pub mod Parser
pub mod ParserLemmas
pub mod Readers
pub mod Reads
pub mod Nests
pub mod NestsLemmas
pub mod Behind
