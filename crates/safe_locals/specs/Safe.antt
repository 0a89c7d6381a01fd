-- Tables of the safe frame locals.
use Rattle.std.specs.Prelude.{◌≡◌, ◌↔◌, ◌<◌, ℕ, Bool, IsTrue, false, List, Some, length, slice_get, slice_index_or}
use Rattle.core_ir.specs.declared.program.Function.{Function}
use Rattle.core_ir.specs.declared.program.Program.{Program}
use Rattle.core_ir.specs.Outline.{Outline}
use Rattle.core_ir.specs.SafeLocal.{IsSafe, IsSafeLocal}

-- one answer for each local of these units, yes exactly where it is safe
pub record AreSafeIn (code : List Outline) (units : List ℕ) (safe : List Bool) : Type 0 where
  pub each : length safe ≡ length units
  pub exact : (v n : ℕ) → slice_get units v ≡ Some n → IsTrue (slice_index_or safe v false) ↔ IsSafe code v n

-- one answer for each frame local, yes exactly where it is safe
pub record AreSafe (f : Function) (safe : List Bool) : Type 0 where
  pub each : length safe ≡ length f.locals
  pub exact : (v : ℕ) → v < length f.locals → IsTrue (slice_index_or safe v false) ↔ IsSafeLocal f v

-- that, for each function
pub record AreAllSafe (p : Program) (table : List (List Bool)) : Type 0 where
  pub each : length table ≡ length p.functions
  pub exact :
      (n : ℕ) (f : Function) (safe : List Bool)
      → slice_get p.functions n ≡ Some f
      → slice_get table n ≡ Some safe
      → AreSafe f safe
