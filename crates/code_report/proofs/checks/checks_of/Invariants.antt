use Rattle.std.proofs.Common.{◌≤◌, List}
use Rattle.c_types.specs.declared.structs.StructDef.{StructDef}
use Rattle.sensitivity.specs.Classes.{AreClasses}
use Rattle.code_report.specs.Checks.{Counts, IsCheck}
use Rattle.code_report.proofs.checks.checks_of.Given as goal

abbrev pub invariant-loop-place : goal.invariant-loop-place
invariant-loop-place l = record {
  few : l.checks ≤ l.place;
  counts : (defs : List StructDef) → AreClasses defs l.classes → Counts (IsCheck defs l.function) l.place l.checks;
}
