-- The longest expression, from what the readers answer.
use Rattle.std.proofs.Common.{◌≡◌, ℕ, ◌-◌, ◌<◌, ◌≤◌, List, [], ◌∷◌, ◌++◌, length, drop, Some, None, refl, sym, ap, subst, ◌∙◌, arith, length-append, length-drop}
use Rattle.std.proofs.lemmas.List.{drop-map, length-map}
use Rattle.c_tokens.specs.declared.token.Token.{Token}
use Rattle.c_tree.specs.declared.expression.Expr.{Expr}
use Rattle.c_tree.specs.Marks.{Kinds, kinds_of}
use Rattle.c_tree.specs.Grammar.{ExprReads}
use Rattle.c_readers.specs.inner.Parser.{Outcome, WithHeight}
use Rattle.c_readers.specs.inner.Readers.{readers}
use Rattle.c_expr.specs.Theorems.{ReadersAreSound, ReadersReadLongest}
use Rattle.c_expr.specs.LongestExpression.{IsLongestExpression, BeginsNoExpression}
use Rattle.c_expr.proofs.FormsBegin.{ExprReads-some}
use Rattle.c_readers.specs.inner.ParserLemmas.{found_both}

-- by other words for the names and the tokens
pub read_by : {known names : List (List ℕ)} (depth : ℕ) {ts us : Kinds} (answer : Outcome (WithHeight Expr)) → known ≡ names → ts ≡ us → (readers known depth).expr 0 ts ≡ answer → (readers names depth).expr 0 us ≡ answer
read_by {known} {names} depth {ts} {us} answer same is read = subst (λ vs. (readers names depth).expr 0 vs ≡ answer) is (subst (λ n. (readers n depth).expr 0 ts ≡ answer) same read)

empty : (ts : Kinds) → length ts ≤ 0 → ts ≡ []
empty [] none = refl
empty (t ∷ ts) none = absurd (omega arith)

kinds_left : (at : ℕ) (tokens : List Token) → length (kinds_of (drop at tokens)) ≡ length tokens - at
kinds_left at tokens = length-map (drop at tokens) (λ (t : Token). t.kind) ∙ length-drop at tokens

module _ (sound : ReadersAreSound) (reads_longest : ReadersReadLongest) where
  -- whatever expression begins the tokens, the answer leaves no more than stands behind it
  leaves_less : (names : List (List ℕ)) (depth : ℕ) (ts : Kinds) (e : Expr) (h : ℕ) (rest : Kinds) → (readers names depth).expr 0 ts ≡ Some ((e, h), rest)
      → (other behind : Kinds) (g : ℕ) (f : Expr) → ts ≡ other ++ behind → g ≤ depth → ExprReads names 0 g other f → length rest ≤ length behind
  leaves_less names depth ts e h rest read other behind g f is deep read_other =
      let more = reads_longest names 0 g depth other behind f (omega arith) deep read_other in
      let same : rest ≡ more.3 = (found_both (sym read ∙ ap (λ ks. (readers names depth).expr 0 ks) is ∙ more.5)).1 in
      omega (arith, ap length same, ap length more.4, length-append more.2 more.3)

  -- what is left is no more than there was
  rest_is : (names : List (List ℕ)) (depth : ℕ) (ts : Kinds) (e : Expr) (h : ℕ) (rest : Kinds) → (readers names depth).expr 0 ts ≡ Some ((e, h), rest) → length rest ≤ length ts
  rest_is names depth ts e h rest read = let found = (sound names depth).expr 0 ts e h rest read in omega (arith, ap length found.1, length-append found.0 rest)

  pub longest_of : (names : List (List ℕ)) (depth : ℕ) (ts : Kinds) (e : Expr) (h : ℕ) (rest : Kinds) → (readers names depth).expr 0 ts ≡ Some ((e, h), rest)
      → IsLongestExpression names depth ts e (length ts - length rest)
  longest_of names depth ts e h rest read =
      let found = (sound names depth).expr 0 ts e h rest read in
      record {
        prefix = found.0;
        rest = rest;
        split = found.1;
        len_is = omega (arith, ap length found.1, length-append found.0 rest);
        height = h;
        deep = found.2;
        read = found.3;
        longest = λ other behind g f is deep read_other.
            let less = leaves_less names depth ts e h rest read other behind g f is deep read_other in
            omega (arith, ap length is, length-append other behind, less);
      }

  pub none_of : (names : List (List ℕ)) (depth : ℕ) (ts : Kinds) → (readers names depth).expr 0 ts ≡ None → BeginsNoExpression names depth ts
  none_of names depth ts none prefix rest h e is deep read_prefix =
      let more = reads_longest names 0 h depth prefix rest e (omega arith) deep read_prefix in
      cc (none, ap (λ ks. (readers names depth).expr 0 ks) is, more.5)

  -- the same, at a place of the tokens
  pub longest_at : (names : List (List ℕ)) (depth at : ℕ) (tokens : List Token) (e : Expr) (h : ℕ) (rest : Kinds) → at ≤ length tokens
      → (readers names depth).expr 0 (kinds_of (drop at tokens)) ≡ Some ((e, h), rest)
      → (at ≤ length tokens - length rest) × IsLongestExpression names depth (drop at (kinds_of tokens)) e (length tokens - length rest - at)
  longest_at names depth at tokens e h rest inside read =
      let there = drop-map (λ (t : Token). t.kind) at tokens in
      let left = kinds_left at tokens in
      let longest = longest_of names depth (kinds_of (drop at tokens)) e h rest read in
      let fits = rest_is names depth (kinds_of (drop at tokens)) e h rest read in
      let len : length (kinds_of (drop at tokens)) - length rest ≡ length tokens - length rest - at = omega arith in
      (omega arith, rw there (subst (λ n. IsLongestExpression names depth (kinds_of (drop at tokens)) e n) len longest))

  pub leaves_inside : (names : List (List ℕ)) (depth at : ℕ) (tokens : List Token) (e : Expr) (h : ℕ) (rest : Kinds)
      → (readers names depth).expr 0 (kinds_of (drop at tokens)) ≡ Some ((e, h), rest) → length rest ≤ length tokens
  leaves_inside names depth at tokens e h rest read = omega (arith, kinds_left at tokens, rest_is names depth (kinds_of (drop at tokens)) e h rest read)

  pub none_at : (names : List (List ℕ)) (depth at : ℕ) (tokens : List Token) → (readers names depth).expr 0 (kinds_of (drop at tokens)) ≡ None → BeginsNoExpression names depth (drop at (kinds_of tokens))
  none_at names depth at tokens none = rw (drop-map (λ (t : Token). t.kind) at tokens) (none_of names depth (kinds_of (drop at tokens)) none)

-- nothing begins behind the last token
pub none_behind : (names : List (List ℕ)) (depth at : ℕ) (tokens : List Token) → length tokens < at → BeginsNoExpression names depth (drop at (kinds_of tokens))
none_behind names depth at tokens past prefix rest h e is deep read_prefix =
    let left = kinds_left at tokens in
    let there = drop-map (λ (t : Token). t.kind) at tokens in
    let sum = length-append prefix rest in
    ExprReads-some read_prefix (empty prefix (omega (arith, ap length is, ap length there)))
