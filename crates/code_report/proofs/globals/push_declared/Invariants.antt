use Rattle.std.proofs.Common.{ℕ, List, drop}
use Rattle.code_report.specs.Names.{declared_names}
use Rattle.code_report.specs.inner.Appending.{GlobalLinesFrom, Passes}
use Rattle.code_report.proofs.globals.push_declared.Given as goal

abbrev pub invariant-loop-declarator : goal.invariant-loop-declarator
invariant-loop-declarator l =
    (ds : List (List ℕ))
    → Passes (GlobalLinesFrom l.globals) l.n (declared_names l.declarators ds) l.next (declared_names (drop l.declarator-index l.declarators) ds)
    l.initial.text.items l.text.items
