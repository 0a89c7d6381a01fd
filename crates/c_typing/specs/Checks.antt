-- What a function that checks ensures: the verdict, unless no memory is left.
use Rattle.std.specs.Prelude.{◌≡◌, ℕ, Result, Ok, Err}
use Rattle.c_scope.specs.declared.world.World.{World}
use Rattle.c_scope.specs.Numbers.{number_of}
use Rattle.c_typing.specs.declared.error.CheckRefusal.{CheckRefusal}
use Rattle.c_typing.specs.declared.error.CheckRefusal.TheVariants.{Memory, Rule}
use Rattle.c_typing.specs.Sources.{Verdict}

-- the rule by its number
abbrev pub numbered : {A : Type 0} → Verdict A → Result A (ℕ × ℕ)
numbered (Ok a) = Ok a
numbered (Err e) = Err (e.0, number_of e.1)

-- the form that is found, or the item and the number of the rule that is broken
abbrev pub Checks : {A : Type 0} → Verdict A → Result A CheckRefusal → Type 0
Checks verdict (Ok a) = verdict ≡ Ok a
Checks verdict (Err (Rule item rule)) = numbered verdict ≡ Err (item, rule)
Checks verdict (Err Memory) = Unit {0}

-- the same of a part of a source, with what is known behind it
abbrev pub ChecksPart : {A : Type 0} → Verdict (A × World) → Result A CheckRefusal → World → Type 0
ChecksPart verdict (Ok a) new = verdict ≡ Ok (a, new)
ChecksPart verdict (Err (Rule item rule)) new = numbered verdict ≡ Err (item, rule)
ChecksPart verdict (Err Memory) new = Unit {0}
