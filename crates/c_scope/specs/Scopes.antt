-- What names mean, and what a declaration of one changes.
use Rattle.std.specs.Prelude.{ℕ, Bool, if◌then◌else◌, nat_lt, List, [], ◌∷◌, ◌++◌, length, Option, Some, None}
use Rattle.std.specs.Option.{option_map, option_or}
use Rattle.std.specs.Str.{bytes_eq}
use Rattle.tables.specs.Places.{first_named}
use Rattle.c_types.specs.Structs.{struct_named, with_tag}
use Rattle.c_scope.specs.declared.rule.Rule.TheVariants as broken
use Rattle.c_scope.specs.declared.scopes.Binding.{Binding}
use Rattle.c_scope.specs.declared.world.KnownFunction.{KnownFunction}
use Rattle.c_scope.specs.declared.scopes.Meaning.{Meaning}
use Rattle.c_scope.specs.declared.world.World.{World}
use Rattle.c_scope.specs.BuiltIns.{Name}
use Rattle.c_scope.specs.Walk.{Walk, ◌>>=◌, ◌>>◌, change, world, pure, rule}

-- ---- scopes

abbrev pub meaning_here : List Binding → Name → Option Meaning
meaning_here bindings x = option_map (λ b. b.meaning) (first_named (λ b. b.name) bindings x)

-- the innermost scope that has the name decides
abbrev pub meaning_of : List (List Binding) → Name → Option Meaning
meaning_of [] x = None
meaning_of (s ∷ ss) x = option_or (meaning_here s x) (meaning_of ss x)

abbrev pub bound_in : List (List Binding) → Name → Meaning → List (List Binding)
bound_in [] x m = (record { name = x; meaning = m } ∷ []) ∷ []
bound_in (s ∷ ss) x m = (s ++ record { name = x; meaning = m } ∷ []) ∷ ss

-- the innermost scope gets the name
unfoldable pub bind : Name → Meaning → Walk (Unit {0})
bind x m = change (λ w. record w { scopes = bound_in w.scopes x m })

abbrev pub outer : List (List Binding) → List (List Binding)
outer [] = []
outer (s ∷ ss) = ss

abbrev pub innermost : List (List Binding) → List Binding
innermost [] = []
innermost (s ∷ ss) = s

-- one scope more, inside the others
unfoldable pub enter : Walk (Unit {0})
enter = change (λ w. record w { scopes = [] ∷ w.scopes })

-- the innermost scope ends
unfoldable pub leave : Walk (Unit {0})
leave = change (λ w. record w { scopes = outer w.scopes })

-- the walk in a scope of its own
abbrev pub within : {A : Type 0} → Walk A → Walk A
within p = enter >> p >>= (λ x. leave >> pure x)

-- ---- functions

abbrev pub known_function : List KnownFunction → Name → Option KnownFunction
known_function functions x = first_named (λ f. f.name) functions x

-- the function of this name, changed so
abbrev pub with_function : (KnownFunction → KnownFunction) → List KnownFunction → Name → List KnownFunction
with_function f [] x = []
with_function f (k ∷ ks) x = if bytes_eq k.name x then f k ∷ ks else k ∷ with_function f ks x

-- ---- tags

abbrev pub most_tags : ℕ
most_tags = 1024

abbrev pub new_tag : Name → Walk ℕ
new_tag x = do
  w ← world
  rule broken.Tag (nat_lt (length w.structs) most_tags)
  change (λ w. record w { structs = with_tag w.structs x })
  pure (length w.structs)

abbrev pub tag_by : Name → Option ℕ → Walk ℕ
tag_by x (Some n) = pure n
tag_by x None = new_tag x

-- the number of a tag, which may be new
unfoldable pub tag : Name → Walk ℕ
tag x = do
  w ← world
  tag_by x (struct_named w.structs x)

-- ---- before the first item

-- the file's scope, without names
abbrev pub empty : World
empty = record { item = 0; structs = []; functions = []; scopes = [] ∷ []; globals = 0; strings = []; locals = [] }
