use Rattle.std.proofs.Common.{◌≡◌, ◌++◌, drop}
use Rattle.trace.specs.Text.{trace_text}
use Rattle.trace.proofs.text.push_records.Given as goal

-- what is written and the text of what is left are the whole text
abbrev pub invariant-loop-i : goal.invariant-loop-i
invariant-loop-i l =
    l.text.items ++ trace_text l.full (drop l.i (l.records).records) ≡ l.fn.text.items ++ trace_text l.full (l.records).records
