-- What a script can be.
use Rattle.std.specs.Prelude.{◌≡◌, ℕ, ℤ, List, Result}
use Rattle.script.specs.declared.error.ScriptRefusal.{ScriptRefusal}
use Rattle.script.specs.declared.read.Script.{Script}
use Rattle.script.specs.Script.{Has, HasInputs}

-- a script has one list of inputs and one of events, or one refusal, and never both
abbrev pub ScriptsHaveOneAnswer : Type 0
ScriptsHaveOneAnswer =
    (script : List ℕ) (a b : Result Script ScriptRefusal)
    → Has script a
    → Has script b
    → a ≡ b

-- and so has a script of inputs alone
abbrev pub InputsHaveOneAnswer : Type 0
InputsHaveOneAnswer =
    (script : List ℕ) (a b : Result (List ℤ) ScriptRefusal)
    → HasInputs script a
    → HasInputs script b
    → a ≡ b
