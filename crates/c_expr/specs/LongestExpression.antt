-- The longest expression that begins the tokens.
use Rattle.std.specs.Prelude.{◌≡◌, ℕ, ◌≤◌, List, ◌++◌, length}
use Rattle.c_tree.specs.declared.expression.Expr.{Expr}
use Rattle.c_tree.specs.Marks.{Kinds}
use Rattle.c_tree.specs.Grammar.{ExprReads}

-- these tokens are an expression of at most this depth, and no longer prefix of all the tokens is one
pub record IsLongestExpression (names : List (List ℕ)) (depth : ℕ) (ts : Kinds) (e : Expr) (len : ℕ) : Type 0 where
  pub prefix : Kinds
  pub rest : Kinds
  pub split : ts ≡ prefix ++ rest
  pub len_is : len ≡ length prefix
  pub height : ℕ
  pub deep : height ≤ depth
  pub read : ExprReads names 0 height prefix e
  pub longest : (other behind : Kinds) (h : ℕ) (f : Expr)
      → ts ≡ other ++ behind
      → h ≤ depth
      → ExprReads names 0 h other f
      → length other ≤ len

-- no prefix of the tokens is an expression of at most this depth
abbrev pub BeginsNoExpression : List (List ℕ) → ℕ → Kinds → Type 0
BeginsNoExpression names depth ts =
    (prefix rest : Kinds) (h : ℕ) (e : Expr)
    → ts ≡ prefix ++ rest
    → h ≤ depth
    → ExprReads names 0 h prefix e
    → ⊥
