-- What traces and their full texts can be.
use Rattle.std.specs.Prelude.{◌≡◌, ℕ, ℤ, List}
use Rattle.meaning.specs.declared.record.Record.{Record}
use Rattle.trace_reader.specs.FullText.{HasFullText, IsFirstBad}

-- one text is the full text of one trace
abbrev pub TextsHaveOneTrace : Type 0
TextsHaveOneTrace =
    (text : List ℕ) (inputs inputs' : List ℤ) (records records' : List Record)
    → HasFullText inputs records text
    → HasFullText inputs' records' text
    → (inputs ≡ inputs') × (records ≡ records')

-- and it has no line that is the first which no full text has
abbrev pub FullTextsHaveNoBadLine : Type 0
FullTextsHaveNoBadLine =
    (text : List ℕ) (inputs : List ℤ) (records : List Record) (n : ℕ)
    → HasFullText inputs records text
    → IsFirstBad text n
    → ⊥

-- a text has one such line at most
abbrev pub TextsHaveOneBadLine : Type 0
TextsHaveOneBadLine =
    (text : List ℕ) (m n : ℕ)
    → IsFirstBad text m
    → IsFirstBad text n
    → m ≡ n
