mod ReadersLemmas
