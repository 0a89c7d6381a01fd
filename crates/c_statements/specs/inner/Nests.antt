-- Function values that read statements.
use Rattle.std.specs.Prelude.{ℕ, ◌<◌, ◌≤◌, ◌^◌, List, Result, IfOk}
use Rattle.std.specs.declared.alloc.Global.{Global}
use denote.Ref.{Bor, MutBor}
use Rattle.c_tree.specs.declared.statement.Stmt.{Stmt}
use Rattle.c_tree.specs.Marks.{Kinds}
use Rattle.c_readers.specs.declared.error.Failure.{Failure}
use Rattle.c_readers.specs.inner.Parser.{WithHeight}
use Rattle.c_readers.specs.inner.Reads.{Reads}
use Rattle.c_statements.specs.inner.Readers.{stmt}

-- one that reads statements at each depth up to this
pub record Nests (depth : ℕ)
    (pre : Global → Bor (List (List ℕ)) → MutBor Kinds → ℕ → Type 0)
    (post : Global → Bor (List (List ℕ)) → MutBor Kinds → ℕ → Result (WithHeight Stmt) Failure → MutBor Kinds → Type 0) : Type 0 where
  pub few : depth < 2 ^ 31
  pub callable : (alloc : Global) (names : Bor (List (List ℕ))) (old : MutBor Kinds) (d : ℕ) → d ≤ depth → pre alloc names old d
  pub reads : (alloc : Global) (names : Bor (List (List ℕ))) (old new : MutBor Kinds) (d : ℕ) (r : Result (WithHeight Stmt) Failure) → d ≤ depth → post alloc names old d r new → Reads (stmt names.now d old.now) r new.now
  pub height : (alloc : Global) (names : Bor (List (List ℕ))) (old new : MutBor Kinds) (d : ℕ) (r : Result (WithHeight Stmt) Failure) → d ≤ depth → post alloc names old d r new → IfOk r (λ s. s.1 ≤ d)
