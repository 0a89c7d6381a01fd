-- What is known of registers at a place of a body: addresses of locals, and first places of chains.
use Rattle.std.specs.Prelude.{◌≡◌, ℕ, List, Option, Some, None, ℤ}
use Rattle.core_ir.specs.Flow.{Serves}
use Rattle.core_ir.specs.Outline.{Outline}
use Rattle.core_ir.specs.SafeLocal.{IsAddress}
use Rattle.safe_locals.specs.declared.marks.LocalAddress.{LocalAddress}
use Rattle.safe_locals.specs.declared.marks.Marks.{Marks}
use Rattle.safe_locals.specs.inner.Marks.{AreMarks}

-- the table tells of each register what serves it at place u
abbrev pub Knows : List Outline → ℕ → Marks → Type 0
Knows code u m = AreMarks code u m.marks

-- the address of local v and so many units serves the register at place u
pub record HasAddress (code : List Outline) (u r v : ℕ) (o : ℤ) : Type 0 where
  pub server : ℕ
  pub serves : Serves code 0 server u r
  pub address : IsAddress code server v o

abbrev pub IsAddressOf : Option LocalAddress → ℕ → ℤ → Type 0
IsAddressOf None v o = ⊥
IsAddressOf (Some a) v o = (a.local ≡ v) × (a.offset ≡ o)
