use Rattle.std.proofs.Common.{◌≡◌, ◌<◌, ℕ, false, Some, slice_get, slice_index_or}
use Rattle.machine.specs.declared.code.CodeLocal.{CodeLocal}
use Rattle.icode.proofs.marked.are_marks.Given as goal

abbrev pub invariant-loop-number : goal.invariant-loop-number
invariant-loop-number l =
    (v : ℕ) (x : CodeLocal) → v < l.number → slice_get l.locals v ≡ Some x → x.safe ≡ slice_index_or l.safe v false
