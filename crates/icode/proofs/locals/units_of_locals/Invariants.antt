use Rattle.std.proofs.Common.{◌≡◌, ◌+◌, drop}
use Rattle.machine.specs.ValidCode.{CodeLocalsLie, code_local_units}
use Rattle.icode.proofs.locals.units_of_locals.Given as goal

abbrev pub invariant-loop-local : goal.invariant-loop-local
invariant-loop-local l = record {
  rest : CodeLocalsLie l.offset (drop l.local-index l.locals) → CodeLocalsLie 0 l.locals;
  whole : CodeLocalsLie 0 l.locals → CodeLocalsLie l.offset (drop l.local-index l.locals);
  sum : l.offset + code_local_units (drop l.local-index l.locals) ≡ code_local_units l.locals;
}
