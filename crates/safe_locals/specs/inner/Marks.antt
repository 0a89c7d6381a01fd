-- What is known at a place of a body: what serves each register, and which locals were used in harmless ways alone.
use Rattle.std.specs.Prelude.{◌≡◌, ◌⊎◌, ◌<◌, ◌≤◌, ◌*◌, ◌^◌, ℕ, zero, suc, Bool, true, false, ◌&&◌, IsTrue, List, Some, length, unsigned_abs, slice_get, slice_index_or, ◌↔◌, ℤ, pos, ◌+ℤ◌, ◌*ℤ◌, int_le, int_lt}
use Rattle.core_ir.specs.Outline.{Outline}
use Rattle.core_ir.specs.declared.role.Role.{Role}
use Rattle.core_ir.specs.declared.role.Role.TheVariants as role
use Rattle.core_ir.specs.Flow.{Chain, HasRole, Serves, Stands}
use Rattle.core_ir.specs.SafeLocal.{IsAccessed, IsAddress, IsInside, IsMoved}
use Rattle.safe_locals.specs.AtLocals.{HasYes, IsAt}
use Rattle.safe_locals.specs.declared.mark.Mark.{Mark}
use Rattle.safe_locals.specs.declared.mark.Mark.TheVariants as mark

abbrev pub mark_at : List Mark → ℕ → Mark
mark_at marks r = slice_index_or marks r mark.Other

-- ---- what an instruction makes

abbrev pub moved : Mark → ℤ → Mark
moved (mark.Address v o) n = mark.Address v (o +ℤ n)
moved _ n = mark.Other

abbrev pub moved_by : Mark → Mark → ℕ → Mark
moved_by p (mark.Number c) n = moved p (c *ℤ pos n)
moved_by p _ n = mark.Other

abbrev pub converted : Mark → Mark
converted (mark.Read first) = mark.Read first
converted _ = mark.Other

-- the mark of what an instruction of this role defines at place k
abbrev pub made : List Mark → ℕ → Role → Mark
made marks k (role.Const c) = mark.Number c
made marks k (role.Local v) = mark.Address v (pos 0)
made marks k (role.Shifted p n) = moved (mark_at marks p) (pos n)
made marks k (role.Indexed p i n) = moved_by (mark_at marks p) (mark_at marks i) n
made marks k (role.Load p) = mark.Read k
made marks k (role.Slot s) = mark.Read k
made marks k (role.Cast a) = converted (mark_at marks a)
made marks k _ = mark.Other

-- a chain that begins at this place ends with an instruction of this role at place k
abbrev pub EndsChain : List Outline → ℕ → Role → ℕ → Type 0
EndsChain code k (role.Load p) first = first ≡ k
EndsChain code k (role.Slot s) first = first ≡ k
EndsChain code k (role.Cast a) first = Chain code 0 k a first
EndsChain code k _ first = ⊥

-- the instruction at place k ends a chain that begins at this place
pub record Reads (code : List Outline) (k first : ℕ) : Type 0 where
  pub by : Role
  pub has : HasRole code 0 k by
  pub ends : EndsChain code k by first

-- it is no number, no address of a local, and the end of no chain
pub record MakesOther (code : List Outline) (k : ℕ) : Type 0 where
  pub no_number : (c : ℤ) → HasRole code 0 k (role.Const c) → ⊥
  pub no_address : (v : ℕ) (o : ℤ) → IsAddress code k v o → ⊥
  pub no_chain : (first : ℕ) → Reads code k first → ⊥

-- the instruction at place k makes what the mark says
abbrev pub Makes : List Outline → ℕ → Mark → Type 0
Makes code k (mark.Number c) = HasRole code 0 k (role.Const c)
Makes code k (mark.Address v o) = IsAddress code k v o
Makes code k (mark.Read first) = Reads code k first
Makes code k mark.Other = MakesOther code k

-- what serves the register at place u makes what the mark says
pub record Tells (code : List Outline) (u r : ℕ) (m : Mark) : Type 0 where
  pub right : (s : ℕ) → Serves code 0 s u r → Makes code s m
  -- only what serves makes an address, a number or a chain
  pub served : (m ≡ mark.Other) ⊎ ((s : ℕ) × Serves code 0 s u r)

-- so many units at most in either direction
abbrev pub IsWithin : ℕ → Mark → Type 0
IsWithin most (mark.Address v o) = unsigned_abs o ≤ most
IsWithin most _ = Unit {0}

-- at a place offsets are at most the sum of as many constant additions
abbrev pub most_offset : ℕ → ℕ
most_offset u = u * 2 ^ 96

pub record AreMarks (code : List Outline) (u : ℕ) (marks : List Mark) : Type 0 where
  pub tell : (r : ℕ) → Tells code u r (mark_at marks r)
  pub within : (r : ℕ) → IsWithin (most_offset u) (mark_at marks r)

-- ---- operands

abbrev pub is_number : Mark → Bool
is_number (mark.Number c) = true
is_number _ = false

abbrev pub is_inside : ℤ → ℕ → Bool
is_inside o units = int_le (pos 0) o && int_lt o (pos units)

-- the first operand of an instruction of this role moves an address by a constant, or accesses the local inside
abbrev pub is_harmless_first : List Mark → Role → ℤ → ℕ → Bool
is_harmless_first marks (role.Shifted p n) o units = true
is_harmless_first marks (role.Indexed p i n) o units = is_number (mark_at marks i)
is_harmless_first marks (role.Touch p) o units = is_inside o units
is_harmless_first marks (role.Load p) o units = is_inside o units
is_harmless_first marks (role.Store p) o units = is_inside o units
is_harmless_first marks _ o units = false

-- the same of any operand
abbrev pub is_harmless : List Mark → Role → ℕ → ℤ → ℕ → Bool
is_harmless marks r zero o units = is_harmless_first marks r o units
is_harmless marks r (suc operand) o units = false

-- ---- locals

-- this operand of the instruction at k is used as a safe local's address may be
abbrev pub IsHarmless : List Outline → ℕ → ℕ → ℤ → ℕ → Type 0
IsHarmless code k operand o units = IsMoved code k operand ⊎ (IsAccessed code k operand × IsInside o units)

-- an operand of the instruction at k is an address of the local
pub record IsUse (code : List Outline) (v k operand : ℕ) (o : ℤ) : Type 0 where
  pub server : ℕ
  pub register : ℕ
  pub instruction : Outline
  pub address : IsAddress code server v o
  pub serves : Serves code 0 server k register
  pub there : Stands code 0 k instruction
  pub is : slice_get instruction.used operand ≡ Some register

-- so is each use before place u, and at place u each of the first so many operands
abbrev pub IsSafeUntil : List Outline → ℕ → ℕ → ℕ → ℕ → Type 0
IsSafeUntil code v units u operands =
    (k operand : ℕ) (o : ℤ)
    → IsUse code v k operand o
    → (k < u) ⊎ ((k ≡ u) × (operand < operands))
    → IsHarmless code k operand o units

pub record AreJudged (code : List Outline) (units : List ℕ) (u operands : ℕ) (safe : List Bool) : Type 0 where
  pub each : length safe ≡ length units
  pub sound :
      (v n : ℕ)
      → slice_get units v ≡ Some n
      → IsTrue (slice_index_or safe v false)
      → IsSafeUntil code v n u operands
  pub complete :
      (v n : ℕ)
      → slice_get units v ≡ Some n
      → IsSafeUntil code v n u operands
      → IsTrue (slice_index_or safe v false)

-- ---- instructions at locals

-- the mark is an address of a local that has a yes
abbrev pub is_of : List Bool → Mark → Bool
is_of locals (mark.Address v o) = slice_index_or locals v false
is_of locals _ = false

-- one answer for each of the first so many instructions
pub record AreAtUntil (code : List Outline) (locals : List Bool) (u : ℕ) (at : List Bool) : Type 0 where
  pub each : length at ≡ u
  pub exact : (k : ℕ) → k < u → HasYes at k ↔ IsAt code (HasYes locals) k
