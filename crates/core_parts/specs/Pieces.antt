-- Code that composes: pieces of a body, and parts of a full expression.
use Rattle.std.specs.Prelude.{◌≡◌, ℕ, ◌+◌, ◌<◌, ◌≤◌, ◌⊎◌, Bool, List, [], ◌∷◌, length, Some}
use Rattle.core_ir.specs.declared.role.Role.TheVariants as role
use Rattle.core_ir.specs.Outline.{Outline}
use Rattle.core_ir.specs.Flow.{HasRole, IsAmong, Jumps, Stands}
use Rattle.core_parts.specs.Places.{IsLinked, Served}

-- P holds of each of these
abbrev pub Each : (ℕ → Type 0) → List ℕ → Type 0
Each P [] = Unit {0}
Each P (x ∷ xs) = P x × Each P xs

-- a place from the first to the last
abbrev pub IsInside : ℕ → ℕ → ℕ → Type 0
IsInside first last l = (first ≤ l) × (l ≤ last)

-- a place that isn't strictly between the two
abbrev pub IsOutside : ℕ → ℕ → ℕ → Type 0
IsOutside first last l = (l ≤ first) ⊎ (last ≤ l)

-- inside, or one of the exits
abbrev pub Leads : ℕ → ℕ → List ℕ → ℕ → Type 0
Leads first last exits l = IsInside first last l ⊎ IsAmong exits l

-- the place behind code
abbrev pub end_of : List Outline → ℕ → ℕ
end_of code start = start + length code

-- Closed code of a body: what each place asks is met inside, and each jump stays inside or goes to an exit.
pub record IsPiece (frame : Bool) (code : List Outline) (start : ℕ) (exits : List ℕ) : Type 0 where
  pub stays : (q l : ℕ) → Jumps code start q l → Leads start (end_of code start) exits l
  pub linked : (u : ℕ) (i : Outline) → Stands code start u i → IsLinked frame code start u i

-- Code defines registers of an interval only, in rising order, each once.
pub record IsOwned (code : List Outline) (start from to : ℕ) : Type 0 where
  pub ordered : from ≤ to
  pub owned : (k r : ℕ) (i : Outline) → Stands code start k i → i.defined ≡ Some r → (from ≤ r) × (r < to)
  pub rising :
      (k j r s : ℕ) (i h : Outline)
      → Stands code start k i
      → Stands code start j h
      → i.defined ≡ Some r
      → h.defined ≡ Some s
      → k < j
      → r < s

-- A piece of one full expression, of any function, with its registers.
pub record IsSection (code : List Outline) (start from to : ℕ) (exits : List ℕ) : Type 0 where
  pub piece : (frame : Bool) → IsPiece frame code start exits
  pub owned : IsOwned code start from to

-- a use of the register directly behind the code would be served
abbrev pub IsLive : List Outline → ℕ → ℕ → Type 0
IsLive code start r = Served code start (end_of code start) r

-- A section without exits, some of whose registers may be used behind it; it starts no thread with one of these.
pub record IsPart (code : List Outline) (start from to : ℕ) (live : List ℕ) : Type 0 where
  pub is_section : IsSection code start from to []
  pub lives : (r : ℕ) → IsAmong live r → IsLive code start r
  pub fresh : (r k t : ℕ) → IsAmong live r → HasRole code start k (role.StartFn t r) → ⊥
