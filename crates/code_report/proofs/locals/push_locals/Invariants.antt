use Rattle.std.proofs.Common.{drop}
use Rattle.code_report.specs.Names.{frame_names}
use Rattle.code_report.specs.inner.Appending.{LocalLinesFrom, Passes}
use Rattle.code_report.proofs.locals.push_locals.Given as goal

abbrev pub invariant-loop-variable : goal.invariant-loop-variable
invariant-loop-variable l =
    Passes (LocalLinesFrom l.function) 0 (frame_names l.variables) l.v (frame_names (drop l.variable-index l.variables)) l.initial.text.items l.text.items
