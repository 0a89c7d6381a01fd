use Rattle.std.proofs.Common.{◌≡◌, ◌+◌, ◌≤◌, drop}
use Rattle.core_ir.specs.Layout.{GlobalsLie, global_units}
use Rattle.core_ir.proofs.layout.units_of_globals.Given as goal

abbrev pub invariant-loop-global : goal.invariant-loop-global
invariant-loop-global l = record {
  rest : GlobalsLie l.structs l.address (drop l.global-index l.globals) → GlobalsLie l.structs 128 l.globals;
  whole : GlobalsLie l.structs 128 l.globals → GlobalsLie l.structs l.address (drop l.global-index l.globals);
  sum : l.address + global_units (drop l.global-index l.globals) ≡ 128 + global_units l.globals;
  from : 128 ≤ l.address;
}
