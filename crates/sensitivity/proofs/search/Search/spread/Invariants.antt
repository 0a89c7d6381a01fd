use Rattle.std.proofs.Common.{◌≡◌, ℕ, ◌<◌, Some, slice_get}
use Rattle.sensitivity.specs.inner.Marks.{Grows, IsFollowed, IsSearch}
use Rattle.sensitivity.proofs.search.Search.spread.Given as goal

abbrev pub invariant-loop-next : goal.invariant-loop-next
invariant-loop-next l = record {
  search : IsSearch l.structs l.self;
  grows : Grows l.fn.self l.self;
  same : l.self.askers ≡ l.fn.self.askers;
  followed : (k n : ℕ) → k < l.next → slice_get l.self.marks.found k ≡ Some n → IsFollowed l.self n;
}
