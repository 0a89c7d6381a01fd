use Rattle.std.proofs.Common.{drop}
use Rattle.code_report.specs.Report.{StructLines}
use Rattle.code_report.specs.inner.Appending.{Passes}
use Rattle.code_report.proofs.structs.push_structs.Given as goal

abbrev pub invariant-loop-s : goal.invariant-loop-s
invariant-loop-s l =
    Passes (StructLines l.structs) 0 l.structs l.s (drop l.s l.structs) l.initial.text.items l.text.items
