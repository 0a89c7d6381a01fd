use Rattle.std.proofs.Common.{◌≡◌, ℕ, ◌<◌, ◌≤◌, slice_index}
use Rattle.core_ir.specs.inner.Jumps.{Reaches}
use Rattle.core_ir.proofs.jumps.Jumps.find_reach.Given as goal

abbrev pub invariant-loop-place : goal.invariant-loop-place
invariant-loop-place l = record {
  reach : (s : ℕ) → l.place ≤ s → s < l.count → Reaches l.self.least l.count s (slice_index l.self.reach s);
  least : l.self.least ≡ l.fn.self.least;
  greatest : l.self.greatest ≡ l.fn.self.greatest;
}
