pub mod FirstTokensLemmas
pub mod Pairs
