-- Parentheses that close round an operand, one pair after another.
use Rattle.std.proofs.Common.{◌≡◌, ℕ, suc, Bool, true, false, if◌then◌else◌, nat_lt, nat_le, List, Some, None, refl}
use Rattle.c_tokens.specs.declared.token.Mark.TheVariants as mark
use Rattle.c_tree.specs.Marks.{Kinds, greatest_pairs, assign_level}
use Rattle.c_tree.specs.declared.expression.Expr.{Expr}
use Rattle.c_readers.specs.declared.operand.Operand.{Operand}
use Rattle.c_readers.specs.inner.Parser.{Outcome, Parser, WithHeight, and_then, ◌>>◌, pure, mismatch, expect}
use Rattle.c_readers.specs.inner.Readers.{Readers, grow, close, bracketed}
use Rattle.c_expr.specs.inner.Pairs.{in_pair}

module _ (more : Operand → Parser (WithHeight Expr)) (o : Operand) where
  pair_test : (b : Bool) (ts : Kinds) → (if b then more (bracketed o) else mismatch) ts ≡ and_then ((if b then pure (bracketed o) else mismatch) ts) more
  pair_test true ts = refl
  pair_test false ts = refl

  pair_expected : (found : Outcome (Unit {0})) → and_then found (λ _. if nat_lt o.pairs greatest_pairs then more (bracketed o) else mismatch)
      ≡ and_then (and_then found (λ _. if nat_lt o.pairs greatest_pairs then pure (bracketed o) else mismatch)) more
  pair_expected (Some p) = pair_test (nat_lt o.pairs greatest_pairs) p.1
  pair_expected None = refl

pair_grown : (more : Operand → Parser (WithHeight Expr)) (grown : Outcome Operand)
    → and_then grown (λ o. expect mark.RightParenthesis >> (if nat_lt o.pairs greatest_pairs then more (bracketed o) else mismatch))
    ≡ and_then (and_then grown (λ o. expect mark.RightParenthesis >> (if nat_lt o.pairs greatest_pairs then pure (bracketed o) else mismatch))) more
pair_grown more (Some p) = pair_expected more p.0 (expect mark.RightParenthesis p.1)
pair_grown more None = refl

module _ (names : List (List ℕ)) (inner : Readers) (limit least : ℕ) where
  -- one pair, and then the others
  pub close_more : (n : ℕ) (o : Operand) (ts : Kinds) → close names inner limit least (suc n) o ts ≡ and_then (in_pair names inner limit o ts) (close names inner limit least n)
  unfolding close in_pair
  close_more n o ts = pair_grown (close names inner limit least n) (grow names inner limit assign_level o ts)

  pub close_last : (o : Operand) (ts : Kinds) → close names inner limit least 0 o ts
      ≡ and_then (grow names inner limit least o ts) (λ whole. if nat_le least whole.level then pure (whole.expr, whole.height) else mismatch)
  unfolding close
  close_last o ts = refl
