-- Control flow and registers, in code that begins at a place: a body begins at 0, a part of one where it will stand.
use Rattle.std.specs.Prelude.{◌≡◌, ◌≢◌, ◌⊎◌, ℕ, ◌-◌, ◌<◌, ◌≤◌, List, [], ◌∷◌, Some, slice_get}
use Rattle.core_ir.specs.declared.role.Role.{Role}
use Rattle.core_ir.specs.declared.role.Role.TheVariants as role
use Rattle.core_ir.specs.Outline.{Outline}

-- r is one of these
abbrev pub IsAmong : List ℕ → ℕ → Type 0
IsAmong [] r = ⊥
IsAmong (x ∷ xs) r = (x ≡ r) ⊎ IsAmong xs r

-- this instruction stands at place k
pub record Stands (code : List Outline) (start k : ℕ) (i : Outline) : Type 0 where
  pub from : start ≤ k
  pub there : slice_get code (k - start) ≡ Some i

-- an instruction at place k has this role
pub record HasRole (code : List Outline) (start k : ℕ) (r : Role) : Type 0 where
  pub instruction : Outline
  pub there : Stands code start k instruction
  pub is : instruction.role ≡ r

-- a jump from place q to place l
pub record Jumps (code : List Outline) (start q l : ℕ) : Type 0 where
  pub by : Outline
  pub there : Stands code start q by
  pub leads : by.target ≡ Some l

-- each jump to a place behind s and not behind u comes from between the two
abbrev pub Unbroken : List Outline → ℕ → ℕ → ℕ → Type 0
Unbroken code start s u =
    (q l : ℕ) → Jumps code start q l → s < l → l ≤ u → (s < q) × (q < u)

-- no jump leads to the place
abbrev pub IsUnreached : List Outline → ℕ → ℕ → Type 0
IsUnreached code start l = (q : ℕ) → Jumps code start q l → ⊥

-- the instruction at s serves a use of register r at u: the nearest before it that defines r
pub record Serves (code : List Outline) (start s u r : ℕ) : Type 0 where
  pub by : Outline
  pub there : Stands code start s by
  pub defines : by.defined ≡ Some r
  pub before : s < u
  pub nearest :
      (k : ℕ) (i : Outline)
      → Stands code start k i
      → s < k
      → k < u
      → i.defined ≢ Some r

-- no instruction from place k to place u, these two among them, defines register r
abbrev pub IsKept : List Outline → ℕ → ℕ → ℕ → ℕ → Type 0
IsKept code start k u r =
    (j : ℕ) (i : Outline) → Stands code start j i → k ≤ j → j ≤ u → i.defined ≢ Some r

-- register r, as it is used at u, is made by conversions alone from what the load or the slot at place k gives
pub data Chain (code : List Outline) (start : ℕ) : ℕ → ℕ → ℕ → Type 0 where
  from_load :
      (s u r p : ℕ)
      → Serves code start s u r
      → HasRole code start s (role.Load p)
      → Chain code start u r s
  from_slot :
      (s u r n : ℕ)
      → Serves code start s u r
      → HasRole code start s (role.Slot n)
      → Chain code start u r s
  through :
      (s u r a k : ℕ)
      → Serves code start s u r
      → HasRole code start s (role.Cast a)
      → Chain code start s a k
      → Chain code start u r k
