use Rattle.std.proofs.Common.{drop}
use Rattle.code_report.specs.Names.{global_names}
use Rattle.code_report.specs.inner.Appending.{GlobalLinesFrom, Passes}
use Rattle.code_report.proofs.globals.push_globals.Given as goal

abbrev pub invariant-loop-item : goal.invariant-loop-item
invariant-loop-item l =
    Passes (GlobalLinesFrom l.globals) 0 (global_names l.items) l.next (global_names (drop l.item-index l.items)) l.initial.text.items l.text.items
