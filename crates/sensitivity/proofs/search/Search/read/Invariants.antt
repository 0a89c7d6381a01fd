use Rattle.std.proofs.Common.{ℕ, ◌<◌}
use Rattle.sensitivity.specs.inner.Marks.{IsSearch, IsStructRead}
use Rattle.sensitivity.proofs.search.Search.read.Given as goal

abbrev pub invariant-loop-s : goal.invariant-loop-s
invariant-loop-s l = record {
  search : IsSearch l.structs l.search;
  read : (t : ℕ) → t < l.s → IsStructRead l.structs l.search t;
}
