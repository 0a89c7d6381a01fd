use Rattle.std.proofs.Common.{◌≡◌, ℕ, suc, ◌<◌, Some, slice_get}
use Rattle.c_types.specs.declared.ty.Ty.{Ty}
use Rattle.core_ir.specs.declared.instr.Instr.{Instr}
use Rattle.core_ir.specs.Parts.{HasPart}
use Rattle.core_ir.specs.Valid.{access_type, touch_type}
use Rattle.core_ir.proofs.touch.touches_fit.Given as goal

abbrev pub invariant-loop-place : goal.invariant-loop-place
invariant-loop-place l =
    (k : ℕ) (touch access : Instr) (whole part : Ty)
    → suc k < l.place
    → slice_get l.body k ≡ Some touch
    → slice_get l.body (suc k) ≡ Some access
    → touch_type touch ≡ Some whole
    → access_type access ≡ Some part
    → HasPart l.structs whole part
