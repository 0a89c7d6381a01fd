mod FormsBegin
mod PairsLemmas
mod ReadersLemmas
mod SeparatedLists
mod TypeNames
mod soundness
mod completeness
