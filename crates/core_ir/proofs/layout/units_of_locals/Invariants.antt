use Rattle.std.proofs.Common.{◌≡◌, ◌+◌, drop}
use Rattle.core_ir.specs.Layout.{LocalsLie, local_units}
use Rattle.core_ir.proofs.layout.units_of_locals.Given as goal

abbrev pub invariant-loop-local : goal.invariant-loop-local
invariant-loop-local l = record {
  rest : LocalsLie l.structs l.offset (drop l.local-index l.locals) → LocalsLie l.structs 0 l.locals;
  whole : LocalsLie l.structs 0 l.locals → LocalsLie l.structs l.offset (drop l.local-index l.locals);
  sum : l.offset + local_units (drop l.local-index l.locals) ≡ local_units l.locals;
}
