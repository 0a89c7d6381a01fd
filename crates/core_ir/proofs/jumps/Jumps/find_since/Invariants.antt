use Rattle.std.proofs.Common.{◌≡◌, ℕ, ◌<◌, slice_index}
use Rattle.core_ir.specs.inner.Jumps.{Begins}
use Rattle.core_ir.proofs.jumps.Jumps.find_since.Given as goal

abbrev pub invariant-loop-place : goal.invariant-loop-place
invariant-loop-place l = record {
  since : (u : ℕ) → u < l.place → Begins l.self.greatest u (slice_index l.self.since u);
  least : l.self.least ≡ l.fn.self.least;
  greatest : l.self.greatest ≡ l.fn.self.greatest;
  reach : l.self.reach ≡ l.fn.self.reach;
}
