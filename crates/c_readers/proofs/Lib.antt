mod NamesSet
mod ReadersLemmas
mod Runs
