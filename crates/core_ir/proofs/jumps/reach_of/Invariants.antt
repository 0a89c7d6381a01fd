use Rattle.std.proofs.Common.{ℕ, ◌-◌, ◌<◌, ◌≤◌, slice_index}
use Rattle.core_ir.proofs.jumps.reach_of.Given as goal

abbrev pub invariant-loop-end : goal.invariant-loop-end
invariant-loop-end l = record {
  behind : l.start ≤ l.end;
  within : l.end < l.count;
  free : (k : ℕ) → l.start < k → k ≤ l.end → l.start < slice_index l.least k;
}

abbrev pub decreases-loop-end : goal.decreases-loop-end
decreases-loop-end l = l.count - l.end
