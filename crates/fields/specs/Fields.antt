-- The fields of a line: what stands between its spaces.
use Rattle.std.specs.Prelude.{◌≡◌, ℕ, cond, nat_eq, not, ◌&&◌, ◌||◌, Bool, true, List, [], ◌∷◌, ◌++◌}
use Rattle.std.specs.List.{flat_map, AllByRecursion}
use Rattle.job.specs.Lines.{onto_first}

-- a text has one field more than it has spaces
abbrev pub fields_of : List ℕ → List (List ℕ)
fields_of [] = [] ∷ []
fields_of (b ∷ bs) = cond (nat_eq b 32) ([] ∷ fields_of bs) (onto_first b (fields_of bs))

-- fields, each behind a space
abbrev pub spaced : List (List ℕ) → List ℕ
spaced fields = flat_map (λ field. 32 ∷ field) fields

-- a line: its first field, the others, and the LF that ends it
abbrev pub line : List ℕ → List (List ℕ) → List ℕ
line first others = first ++ spaced others ++ 10 ∷ []

-- no byte is a space or an LF
abbrev pub is_plain : List ℕ → Bool
is_plain [] = true
is_plain (b ∷ bs) = not (nat_eq b 32 || nat_eq b 10) && is_plain bs

abbrev pub IsPlain : List ℕ → Type 0
IsPlain field = is_plain field ≡ true

abbrev pub ArePlain : List (List ℕ) → Type 0
ArePlain fields = AllByRecursion IsPlain fields
