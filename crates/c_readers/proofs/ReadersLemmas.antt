-- The reader of abstract declarators of a depth, by those of the depth below.
use Rattle.std.proofs.Common.{◌≡◌, ℕ, ◌-◌, ◌<◌, List, None, ap}
use Rattle.c_tree.specs.Marks.{Kinds}
use Rattle.c_readers.specs.inner.Nests.{below}
use Rattle.c_readers.specs.inner.NestsLemmas.{some_depth, less_one}
use Rattle.c_readers.specs.inner.Readers as reader
use Rattle.c_readers.specs.inner.Readers.{readers}

pub abstract_zero : (names : List (List ℕ)) (depth : ℕ) (ts : Kinds) → depth ≡ 0 → (readers names depth).abstract ts ≡ None
unfolding readers
abstract_zero names depth ts is = ap (λ d. (readers names d).abstract ts) is

pub abstract_some : (names : List (List ℕ)) (depth : ℕ) (ts : Kinds) → 0 < depth → (readers names depth).abstract ts ≡ reader.abstract names (below names depth) (depth - 1) ts
unfolding readers below
abstract_some names depth ts = some_depth (λ d. (readers names d).abstract ts ≡ reader.abstract names (below names d) (d - 1) ts) (λ d. ap (λ n. reader.abstract names (readers names d) n ts) (less_one d)) depth
