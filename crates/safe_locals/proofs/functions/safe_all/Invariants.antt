use Rattle.std.proofs.Common.{◌≡◌, ℕ, Bool, List, Some, length, slice_get}
use Rattle.core_ir.specs.declared.program.Function.{Function}
use Rattle.safe_locals.specs.Safe.{AreSafe}
use Rattle.safe_locals.proofs.functions.safe_all.Given as goal

abbrev pub invariant-loop-function : goal.invariant-loop-function
invariant-loop-function l = record {
  each : length l.table ≡ l.function-index;
  exact : (n : ℕ) (f : Function) (safe : List Bool) → slice_get l.program.functions n ≡ Some f → slice_get l.table n ≡ Some safe → AreSafe f safe;
}
