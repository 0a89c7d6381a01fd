-- Which of some things has a name, and where it stands.
use Rattle.std.specs.Prelude.{ℕ, suc, List, [], ◌∷◌, Option, Some, None, if◌then◌else◌}
use Rattle.std.specs.Option.{option_map}
use Rattle.std.specs.Str.{bytes_eq}

module _ {A : Type 0} (name_of : A → List ℕ) where
  -- the place of the first one with this name
  abbrev pub place_of : List A → List ℕ → Option ℕ
  place_of [] x = None
  place_of (a ∷ others) x = if bytes_eq (name_of a) x then Some 0 else option_map suc (place_of others x)

  -- the first one with this name
  abbrev pub first_named : List A → List ℕ → Option A
  first_named [] x = None
  first_named (a ∷ others) x = if bytes_eq (name_of a) x then Some a else first_named others x
