use Rattle.std.proofs.Common.{◌≡◌, ℕ, length}
use Rattle.sensitivity.specs.inner.Marks.{Includes}
use Rattle.sensitivity.proofs.askers.Askers.new.Given as goal

abbrev pub invariant-loop : goal.invariant-loop
invariant-loop l = record {
  many : length l.lists.items ≡ l.counter;
  none : (n s : ℕ) → Includes l.lists.items n s → ⊥;
}
