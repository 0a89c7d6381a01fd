-- The readers that the rules of one depth are made of, and functions that compute them.
use Rattle.std.specs.Prelude.{ℕ, zero, suc, ◌<◌, ◌≤◌, ◌^◌, List, Result, IfOk}
use Rattle.std.specs.declared.alloc.Global.{Global}
use denote.Ref.{Bor, MutBor}
use Rattle.c_tree.specs.declared.expression.Expr.{Expr}
use Rattle.c_tree.specs.declared.expression.Params.{Params}
use Rattle.c_tree.specs.Marks.{Kinds}
use Rattle.c_readers.specs.declared.error.Failure.{Failure}
use Rattle.c_readers.specs.inner.Parser.{WithHeight}
use Rattle.c_readers.specs.inner.Readers.{Readers, readers, nothing}
use Rattle.c_readers.specs.inner.Reads.{Reads}

-- the readers of the depth below
unfoldable pub below : List (List ℕ) → ℕ → Readers
below names zero = nothing
below names (suc depth) = readers names depth

-- function values that read expressions and parameters at each smaller depth
pub record Nests (depth : ℕ)
    (expr_pre : Global → Bor (List (List ℕ)) → MutBor Kinds → ℕ → ℕ → Type 0)
    (expr_post : Global → Bor (List (List ℕ)) → MutBor Kinds → ℕ → ℕ → Result (WithHeight Expr) Failure → MutBor Kinds → Type 0)
    (params_pre : Global → Bor (List (List ℕ)) → MutBor Kinds → ℕ → Type 0)
    (params_post : Global → Bor (List (List ℕ)) → MutBor Kinds → ℕ → Result (WithHeight Params) Failure → MutBor Kinds → Type 0) : Type 0 where
  pub few : depth < 2 ^ 32
  pub expr_callable : (alloc : Global) (names : Bor (List (List ℕ))) (old : MutBor Kinds) (d least : ℕ) → d < depth → expr_pre alloc names old d least
  pub expr_reads : (alloc : Global) (names : Bor (List (List ℕ))) (old new : MutBor Kinds) (d least : ℕ) (r : Result (WithHeight Expr) Failure) → d < depth → expr_post alloc names old d least r new
      → Reads ((readers names.now d).expr least old.now) r new.now
  pub expr_height : (alloc : Global) (names : Bor (List (List ℕ))) (old new : MutBor Kinds) (d least : ℕ) (r : Result (WithHeight Expr) Failure) → d < depth → expr_post alloc names old d least r new → IfOk r (λ e. e.1 ≤ d)
  pub params_callable : (alloc : Global) (names : Bor (List (List ℕ))) (old : MutBor Kinds) (d : ℕ) → d < depth → params_pre alloc names old d
  pub params_reads : (alloc : Global) (names : Bor (List (List ℕ))) (old new : MutBor Kinds) (d : ℕ) (r : Result (WithHeight Params) Failure) → d < depth → params_post alloc names old d r new
      → Reads ((readers names.now d).params old.now) r new.now
  pub params_height : (alloc : Global) (names : Bor (List (List ℕ))) (old new : MutBor Kinds) (d : ℕ) (r : Result (WithHeight Params) Failure) → d < depth → params_post alloc names old d r new → IfOk r (λ p. p.1 ≤ d)
