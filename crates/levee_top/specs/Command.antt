-- The words of a command.
use Rattle.std.specs.Prelude.{◌≡◌, ℕ, Bool, true, false, List, [], ◌∷◌, codes}
use Rattle.levee_top.specs.declared.command.Command.{Command}
use Rattle.levee_top.specs.declared.command.Command.TheVariants.{Run}

-- the words of a run, in brief or in full
abbrev pub run_words : Bool → List (List ℕ)
run_words false = codes "run" ∷ []
run_words true = codes "run" ∷ codes "--full" ∷ []

-- the words are this command
abbrev pub IsCommand : List (List ℕ) → Command → Type 0
IsCommand words (Run full) = words ≡ run_words full

abbrev pub IsNoCommand : List (List ℕ) → Type 0
IsNoCommand words = (command : Command) → IsCommand words command → ⊥
