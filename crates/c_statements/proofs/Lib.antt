pub mod ChainLemmas
mod ReadersLemmas
pub mod soundness
pub mod completeness
