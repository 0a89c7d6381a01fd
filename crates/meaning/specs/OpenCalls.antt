-- Calls that are open, and where a return goes.
use Rattle.std.specs.Prelude.{◌≡◌, ℕ, ◌+◌, List, [], ◌∷◌, length}

-- An open call: the function that was called, and the place of its call.
pub record Open : Type 0 where
  pub function : ℕ
  pub from : ℕ

-- a return from this depth goes behind the call that opened the innermost frame
abbrev pub GoesBehind : List Open → ℕ → ℕ → ℕ → Type 0
GoesBehind (callee ∷ caller ∷ below) depth f to =
    (depth ≡ length (caller ∷ below)) × (f ≡ caller.function) × (to ≡ callee.from + 1)
GoesBehind _ depth f to = ⊥

abbrev pub outer : List Open → List Open
outer [] = []
outer (innermost ∷ below) = below
