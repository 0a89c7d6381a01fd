-- Which frame locals are safe: those whose address is used in no other way than for accesses inside them, at constant
-- offsets.
use Rattle.std.specs.Prelude.{◌≡◌, ◌⊎◌, ℕ, List, Some, slice_get, map, ℤ, pos, ◌+ℤ◌, ◌*ℤ◌, ◌≤ℤ◌, ◌<ℤ◌}
use Rattle.core_ir.specs.Outline.{Outline}
use Rattle.core_ir.specs.declared.role.Role.TheVariants as role
use Rattle.core_ir.specs.declared.program.Function.{Function}
use Rattle.core_ir.specs.declared.program.Local.{Local}
use Rattle.core_ir.specs.Flow.{HasRole, Serves, Stands}
use Rattle.core_ir.specs.Instructions.{outline_of}

-- the instruction at place k makes the address of local v and so many units; the sums are exact
pub data IsAddress (code : List Outline) : ℕ → ℕ → ℤ → Type 0 where
  base : (k v : ℕ) (o : ℤ) → HasRole code 0 k (role.Local v) → o ≡ pos 0 → IsAddress code k v o
  shifted :
      (k v p n s : ℕ) (o sum : ℤ)
      → HasRole code 0 k (role.Shifted p n)
      → Serves code 0 s k p
      → IsAddress code s v o
      → sum ≡ o +ℤ pos n
      → IsAddress code k v sum
  indexed :
      (k v p i n s j : ℕ) (o c sum : ℤ)
      → HasRole code 0 k (role.Indexed p i n)
      → Serves code 0 s k p
      → IsAddress code s v o
      → Serves code 0 j k i
      → HasRole code 0 j (role.Const c)
      → sum ≡ o +ℤ c *ℤ pos n
      → IsAddress code k v sum

-- the operand is the pointer of a further constant addition
pub data IsMoved (code : List Outline) (u : ℕ) : ℕ → Type 0 where
  by_constant : (p n : ℕ) → HasRole code 0 u (role.Shifted p n) → IsMoved code u 0
  by_index :
      (p i n j : ℕ) (c : ℤ)
      → HasRole code 0 u (role.Indexed p i n)
      → Serves code 0 j u i
      → HasRole code 0 j (role.Const c)
      → IsMoved code u 0

-- the operand is the address of a touch, a load or a store
pub data IsAccessed (code : List Outline) (u : ℕ) : ℕ → Type 0 where
  touched : (p : ℕ) → HasRole code 0 u (role.Touch p) → IsAccessed code u 0
  loaded : (p : ℕ) → HasRole code 0 u (role.Load p) → IsAccessed code u 0
  stored : (p : ℕ) → HasRole code 0 u (role.Store p) → IsAccessed code u 0

-- from 0 to the local's units less one
abbrev pub IsInside : ℤ → ℕ → Type 0
IsInside o units = (pos 0 ≤ℤ o) × (o <ℤ pos units)

-- each operand that an address of the local serves moves it by a constant or accesses the local inside
abbrev pub IsSafe : List Outline → ℕ → ℕ → Type 0
IsSafe code v units =
    (s u operand r : ℕ) (o : ℤ) (i : Outline)
    → IsAddress code s v o
    → Serves code 0 s u r
    → Stands code 0 u i
    → slice_get i.used operand ≡ Some r
    → IsMoved code u operand ⊎ (IsAccessed code u operand × IsInside o units)

pub record IsSafeLocal (f : Function) (v : ℕ) : Type 0 where
  pub local : Local
  pub there : slice_get f.locals v ≡ Some local
  pub safe : IsSafe (map outline_of f.body) v local.units
