-- Which instructions are at locals: those whose first operand is an address of one.
use Rattle.std.specs.Prelude.{◌≡◌, ◌↔◌, ◌<◌, ℕ, Bool, IsTrue, false, List, Some, length, map, slice_get, slice_index_or, ℤ}
use Rattle.core_ir.specs.declared.program.Function.{Function}
use Rattle.core_ir.specs.Flow.{Serves, Stands}
use Rattle.core_ir.specs.Instructions.{outline_of}
use Rattle.core_ir.specs.Outline.{Outline}
use Rattle.core_ir.specs.SafeLocal.{IsAddress, IsSafeLocal}

-- an address of such a local serves the first operand of the instruction at place k
pub record IsAt (code : List Outline) (Is : ℕ → Type 0) (k : ℕ) : Type 0 where
  pub local : ℕ
  pub such : Is local
  pub server : ℕ
  pub offset : ℤ
  pub address : IsAddress code server local offset
  pub register : ℕ
  pub serves : Serves code 0 server k register
  pub instruction : Outline
  pub there : Stands code 0 k instruction
  pub is : slice_get instruction.used 0 ≡ Some register

abbrev pub HasYes : List Bool → ℕ → Type 0
HasYes answers n = IsTrue (slice_index_or answers n false)

-- one answer for each instruction, yes exactly where it is at a local that has a yes
pub record AreAt (code : List Outline) (locals at : List Bool) : Type 0 where
  pub each : length at ≡ length code
  pub exact : (k : ℕ) → k < length code → HasYes at k ↔ IsAt code (HasYes locals) k

-- the instruction at place k is at a safe local
abbrev pub IsAtSafe : Function → ℕ → Type 0
IsAtSafe f k = IsAt (map outline_of f.body) (IsSafeLocal f) k

-- one answer for each instruction, yes exactly where it is at a safe local
pub record AreAtSafe (f : Function) (at : List Bool) : Type 0 where
  pub each : length at ≡ length f.body
  pub exact : (k : ℕ) → k < length f.body → HasYes at k ↔ IsAtSafe f k
