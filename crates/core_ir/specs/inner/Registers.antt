-- What is known of each register at a place of a body, as tables by register.
use Rattle.std.specs.Prelude.{◌≡◌, ◌≢◌, ℕ, ◌<◌, List, Option, Some, None, slice_get}
use Rattle.std.specs.Option.{option_and_then}
use Rattle.core_ir.specs.declared.registers.Registers.{Registers}
use Rattle.core_ir.specs.declared.role.Role.{Role}
use Rattle.core_ir.specs.declared.role.Role.TheVariants as role
use Rattle.core_ir.specs.Outline.{Outline}
use Rattle.core_ir.specs.Flow.{Chain, HasRole, Stands}

-- the entry of a register, and none behind the table's end
abbrev pub entry : List (Option ℕ) → ℕ → Option ℕ
entry table r = option_and_then (λ o. o) (slice_get table r)

-- one entry of a table is now o, and the others are as they were
pub record IsEntered (old : List (Option ℕ)) (at : ℕ) (o : Option ℕ) (new : List (Option ℕ)) : Type 0 where
  pub there : entry new at ≡ o
  pub elsewhere : (k : ℕ) → k ≢ at → entry new k ≡ entry old k

-- the first place of the chain of what an instruction of this role at a place defines
abbrev pub linked : List (Option ℕ) → ℕ → Role → Option ℕ
linked chain place (role.Load p) = Some place
linked chain place (role.Slot s) = Some place
linked chain place (role.Cast a) = entry chain a
linked chain place _ = None

-- the last place before u of which P holds, if there is one
abbrev pub IsLast : (ℕ → Type 0) → ℕ → Option ℕ → Type 0
IsLast P u None = (k : ℕ) → k < u → P k → ⊥
IsLast P u (Some s) = (s < u) × P s × ((k : ℕ) → s < k → k < u → P k → ⊥)

-- the instruction at k defines r
pub record Defines (code : List Outline) (r k : ℕ) : Type 0 where
  pub by : Outline
  pub there : Stands code 0 k by
  pub defines : by.defined ≡ Some r

-- the instruction at k starts a thread with the function in r
pub record StartsWith (code : List Outline) (r k : ℕ) : Type 0 where
  pub thread : ℕ
  pub there : HasRole code 0 k (role.StartFn thread r)

-- the chain of what an instruction of this role at place s defines begins at place k
abbrev pub LinkedAt : List Outline → ℕ → Role → ℕ → Type 0
LinkedAt code s (role.Load p) k = k ≡ s
LinkedAt code s (role.Slot n) k = k ≡ s
LinkedAt code s (role.Cast a) k = Chain code 0 s a k
LinkedAt code s _ k = ⊥

-- what is known before place u of definitions
pub record AreDefined (code : List Outline) (u : ℕ) (registers : Registers) : Type 0 where
  pub last : (r : ℕ) → IsLast (Defines code r) u (entry registers.last r)
  pub few : (r s : ℕ) → entry registers.last r ≡ Some s → r < 1024
  pub chain : (r k : ℕ) → Chain code 0 u r k → entry registers.chain r ≡ Some k
  pub chained : (r k : ℕ) → entry registers.chain r ≡ Some k → Chain code 0 u r k

-- what is known before place u
pub record AreKnown (code : List Outline) (u : ℕ) (registers : Registers) : Type 0 where
  -- the last place that defined the register
  pub last : (r : ℕ) → IsLast (Defines code r) u (entry registers.last r)
  pub few : (r s : ℕ) → entry registers.last r ≡ Some s → r < 1024
  -- the first place of its chain
  pub chain : (r k : ℕ) → Chain code 0 u r k → entry registers.chain r ≡ Some k
  pub chained : (r k : ℕ) → entry registers.chain r ≡ Some k → Chain code 0 u r k
  -- the last place that started a thread with it
  pub started : (r : ℕ) → r < 1024 → IsLast (StartsWith code r) u (entry registers.started r)
