use Rattle.std.proofs.Common.{◌≡◌, ◌<◌, ℕ, slice_index}
use Rattle.core_ir.proofs.jumps.Jumps.clear.Given as goal

abbrev pub invariant-loop-place : goal.invariant-loop-place
invariant-loop-place l = record {
  least : (k : ℕ) → k < l.place → slice_index l.self.least k ≡ 4294967295;
  greatest : (k : ℕ) → k < l.place → slice_index l.self.greatest k ≡ 0;
}
