-- What an outcome is: one.
use Rattle.std.specs.Prelude.{◌≡◌, ℕ, List}
use Rattle.levee_top.specs.declared.status.Status.{Status}
use Rattle.levee_top.specs.Outcome.{Outcome}

-- words and an input have one status and one text
abbrev pub OutcomesAreUnique : Type 0
OutcomesAreUnique =
    (words : List (List ℕ)) (input : List ℕ) (status status' : Status) (text text' : List ℕ)
    → Outcome words input status text
    → Outcome words input status' text'
    → (status ≡ status') × (text ≡ text')
