-- The reader of expressions of a depth, by the readers of the depth below.
use Rattle.std.proofs.Common.{◌≡◌, ℕ, zero, suc, ◌-◌, ◌<◌, List, None, ap, arith}
use Rattle.c_tree.specs.Marks.{Kinds}
use Rattle.c_readers.specs.inner.Nests.{below}
use Rattle.c_readers.specs.inner.Readers as reader
use Rattle.c_readers.specs.inner.Readers.{readers}

pub zero_expr : (names : List (List ℕ)) (depth least : ℕ) (ts : Kinds) → depth ≡ 0 → (readers names depth).expr least ts ≡ None
unfolding readers
zero_expr names depth least ts is = ap (λ d. (readers names d).expr least ts) is

pub expr_some : (names : List (List ℕ)) (depth least : ℕ) (ts : Kinds) → 0 < depth → (readers names depth).expr least ts ≡ reader.level names (below names depth) (depth - 1) least ts
unfolding readers below
expr_some names zero least ts some = absurd (omega arith)
expr_some names (suc d) least ts some = let e : d ≡ suc d - 1 = omega arith in ap (λ n. reader.level names (readers names d) n least ts) e
