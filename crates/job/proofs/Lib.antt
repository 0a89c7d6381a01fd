pub mod CutIsFound
pub mod LinesLemmas
pub mod OneCut
