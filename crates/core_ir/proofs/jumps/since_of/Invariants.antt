use Rattle.std.proofs.Common.{ℕ, ◌<◌, ◌≤◌, slice_index}
use Rattle.core_ir.proofs.jumps.since_of.Given as goal

abbrev pub invariant-loop-begin : goal.invariant-loop-begin
invariant-loop-begin l = record {
  before : l.begin ≤ l.end;
  free : (k : ℕ) → l.begin < k → k ≤ l.end → slice_index l.greatest k < l.end;
}

abbrev pub decreases-loop-begin : goal.decreases-loop-begin
decreases-loop-begin l = l.begin
