use Rattle.std.proofs.Common.{◌≡◌, ◌<◌, ℕ, Some, slice_get}
use Rattle.machine.specs.declared.code.CodeLocal.{CodeLocal}
use Rattle.icode.proofs.locals.write_units.Given as goal

abbrev pub invariant-loop-number : goal.invariant-loop-number
invariant-loop-number l =
    (v : ℕ) (x : CodeLocal) → v < l.number → slice_get l.locals v ≡ Some x → slice_get l.units v ≡ Some x.units
