use Rattle.std.proofs.Common.{◌≡◌, take}
use Rattle.machine.specs.Stands.{safe_units}
use Rattle.icode.proofs.locals.units_of_safe.Given as goal

abbrev pub invariant-loop-local : goal.invariant-loop-local
invariant-loop-local l = l.units ≡ safe_units (take l.local-index l.locals)
