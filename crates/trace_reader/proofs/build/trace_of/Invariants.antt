-- The records up to the entry are pushed, and there is room for the others.
use Rattle.std.proofs.Common.{◌≡◌, ◌≤◌, ◌+◌, length, take}
use Rattle.trace_reader.proofs.build.trace_of.Given as goal

abbrev pub invariant-loop-entry : goal.invariant-loop-entry
invariant-loop-entry l = record {
  inputs : l.trace.inputs ≡ l.lines.inputs;
  records : l.trace.records ≡ take l.entry-index l.lines.records;
  room : length l.lines.records ≤ l.trace.spare + l.entry-index;
}
