pub mod CountsLemmas
pub mod WholeLemmas
