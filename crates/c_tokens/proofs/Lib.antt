mod ListLemmas
mod BlankLemmas
mod WordsLemmas
mod LexLemmas
mod uniqueness
mod soundness
mod round_trip
