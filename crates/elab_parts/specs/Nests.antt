-- Function values that emit the parts of a tree, which nest less deep.
use Rattle.std.specs.Prelude.{ℕ, ◌<◌, Result}
use denote.Ref.{Bor, MutBor}
use Rattle.c_typed.specs.declared.expression.TypedExpr.{TypedExpr}
use Rattle.elab_emit.specs.declared.emitter.Emitter.{Emitter}
use Rattle.elab_emit.specs.declared.emitter.Trouble.{Trouble}
use Rattle.elab_rows.specs.declared.scope.Scope.{Scope}
use Rattle.elab_emit.specs.Emits.{IsSound, Outcome, code_of}
use Rattle.elab_rows.specs.Values.{part}

pub record Nests (depth : ℕ)
    (value_pre : MutBor Emitter → Bor Scope → ℕ → Bor TypedExpr → Type 0)
    (value_post : MutBor Emitter → Bor Scope → ℕ → Bor TypedExpr → Result ℕ Trouble → MutBor Emitter → Type 0)
    (address_pre : MutBor Emitter → Bor Scope → ℕ → Bor TypedExpr → Type 0)
    (address_post : MutBor Emitter → Bor Scope → ℕ → Bor TypedExpr → Result ℕ Trouble → MutBor Emitter → Type 0) : Type 0 where
  pub value_callable : (old : MutBor Emitter) (scope : Bor Scope) (d : ℕ) (expr : Bor TypedExpr) → d < depth → IsSound old.now → value_pre old scope d expr
  pub value_made : (old new : MutBor Emitter) (scope : Bor Scope) (d : ℕ) (expr : Bor TypedExpr) (r : Result ℕ Trouble) → d < depth → IsSound old.now
      → value_post old scope d expr r new → Outcome old.now (code_of old.now (part scope.now expr.now).value) r new.now
  pub value_sound : (old new : MutBor Emitter) (scope : Bor Scope) (d : ℕ) (expr : Bor TypedExpr) (r : Result ℕ Trouble) → d < depth → IsSound old.now
      → value_post old scope d expr r new → IsSound new.now
  pub address_callable : (old : MutBor Emitter) (scope : Bor Scope) (d : ℕ) (expr : Bor TypedExpr) → d < depth → IsSound old.now → address_pre old scope d expr
  pub address_made : (old new : MutBor Emitter) (scope : Bor Scope) (d : ℕ) (expr : Bor TypedExpr) (r : Result ℕ Trouble) → d < depth → IsSound old.now
      → address_post old scope d expr r new → Outcome old.now (code_of old.now (part scope.now expr.now).lvalue.address) r new.now
  pub address_sound : (old new : MutBor Emitter) (scope : Bor Scope) (d : ℕ) (expr : Bor TypedExpr) (r : Result ℕ Trouble) → d < depth → IsSound old.now
      → address_post old scope d expr r new → IsSound new.now
