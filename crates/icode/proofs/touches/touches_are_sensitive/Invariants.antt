use Rattle.std.proofs.Common.{◌≡◌, ℕ, suc, ◌<◌, IsTrue, Some, slice_get}
use Rattle.machine.specs.declared.code.CodePlace.{CodePlace}
use Rattle.machine.specs.declared.code.ScalarKind.{ScalarKind}
use Rattle.machine.specs.Numbers.{is_kept}
use Rattle.machine.specs.ValidCode.{IsSensitiveTouch, access_kind}
use Rattle.icode.proofs.touches.touches_are_sensitive.Given as goal

abbrev pub invariant-loop-place : goal.invariant-loop-place
invariant-loop-place l =
    (k : ℕ) (touch access : CodePlace) (kind : ScalarKind)
    → suc k < l.place
    → slice_get l.body k ≡ Some touch
    → slice_get l.body (suc k) ≡ Some access
    → access_kind access ≡ Some kind
    → IsTrue (is_kept kind)
    → IsSensitiveTouch touch
