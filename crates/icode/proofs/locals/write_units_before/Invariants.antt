use Rattle.std.proofs.Common.{◌≡◌, ◌<◌, ℕ, slice_index, take}
use Rattle.machine.specs.Stands.{safe_units}
use Rattle.icode.proofs.locals.write_units_before.Given as goal

abbrev pub invariant-loop-number : goal.invariant-loop-number
invariant-loop-number l = record {
  so_far : l.units ≡ safe_units (take l.number l.locals);
  before : (v : ℕ) → v < l.number → slice_index l.before v ≡ safe_units (take v l.locals);
}
