mod Lookups
mod PlacesLemmas
