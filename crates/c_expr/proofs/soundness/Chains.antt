-- What an answer of a chain of readers says of each of its links.
use Rattle.std.proofs.Common.{◌≡◌, ℕ, zero, suc, ◌+◌, ◌<◌, ◌≤◌, max, Bool, true, false, not, ◌&&◌, List, [], ◌∷◌, ◌++◌, Some, refl, sym, ap, subst, ◌∙◌, arith, replicate}
use Rattle.c_tokens.specs.declared.token.Kind.{Kind}
use Rattle.c_tokens.specs.declared.token.Kind.TheVariants.{Mark}
use Rattle.c_tokens.specs.declared.token.Mark.{Mark as MarkName}
use Rattle.c_tokens.specs.declared.token.Mark.TheVariants as mark
use Rattle.c_tree.specs.Marks.{Kinds}
use Rattle.c_readers.specs.inner.Parser.{is_mark, run, Parser, WithHeight, and_then, pure, sees}
use Rattle.c_readers.specs.inner.Readers.{begins_spec, opened}
use Rattle.c_expr.specs.Theorems.{ReadsOnly}
use Rattle.c_readers.specs.inner.ParserLemmas.{sees_true, found_both, ReadsPrefix, both_answer}

-- an answer of a chain whose first reader reads trees
pub tree_answer : {A B C : Type 0} {R : ℕ → Kinds → A → Type 0} {depth : ℕ} (p : Parser (WithHeight A)) → ReadsOnly p depth R → (ts : Kinds) (f : WithHeight A → Parser B) (q : B × Kinds) → and_then (p ts) f ≡ Some q
    → ((x : A) (h : ℕ) (ks prefix : Kinds) → ts ≡ prefix ++ ks → h ≤ depth → R h prefix x → f (x, h) ks ≡ Some q → C) → C
tree_answer p reads ts f q is on = both_answer (p ts) f q is (λ x ks here more. let r = reads ts x.0 x.1 ks here in on x.0 x.1 ks r.0 r.1 r.2 r.3 more)

-- where both tests are true, each is
pub both_true : (a b : Bool) → (a && b) ≡ true → (a ≡ true) × (b ≡ true)
both_true true b is = (refl, is)
both_true false b is = cc

-- the marks of a run stand before what is behind it
pub run_split : (m : MarkName) (ts : Kinds) → ts ≡ replicate (run m ts).0 (Mark m) ++ (run m ts).1
run_split m [] = refl
run_split m (k ∷ ks) = by (is_mark m k) refl (run_split m ks)
  where
    by : (b : Bool) → is_mark m k ≡ b → ks ≡ replicate (run m ks).0 (Mark m) ++ (run m ks).1 → k ∷ ks ≡ replicate (run m (k ∷ ks)).0 (Mark m) ++ (run m (k ∷ ks)).1
    by true seen more = let found = sees_true m (k ∷ ks) seen in rw seen (let same : k ≡ Mark m = cc in rw same (ap (λ us. Mark m ∷ us) more))
    by false seen more = rw seen refl

pub run_some : (m : MarkName) (ts : Kinds) → sees m ts ≡ true → 0 < (run m ts).0
run_some m [] seen = cc
run_some m (k ∷ ks) seen = rw seen (omega arith)

-- so many parentheses open before the tokens
abbrev pub opens : ℕ → Kinds → Kinds
opens zero ts = ts
opens (suc k) ts = opens k (Mark mark.LeftParenthesis ∷ ts)

opens_first : (k : ℕ) (ts : Kinds) → Mark mark.LeftParenthesis ∷ opens k ts ≡ opens k (Mark mark.LeftParenthesis ∷ ts)
opens_first zero ts = refl
opens_first (suc k) ts = opens_first k (Mark mark.LeftParenthesis ∷ ts)

mark_is : (m : MarkName) (k : Kind) (b : Bool) → (is_mark m k && b) ≡ true → k ≡ Mark m
mark_is m k b both = by (is_mark m k) refl both
  where
    by : (c : Bool) → is_mark m k ≡ c → (c && b) ≡ true → k ≡ Mark m
    by true seen both = let found = sees_true m (k ∷ []) seen in cc
    by false seen both = cc

-- those that open with no type behind them stand before what is behind them
pub opened_split : (names : List (List ℕ)) (ts : Kinds) → ts ≡ opens (opened names ts).0 (opened names ts).1
opened_split names [] = refl
opened_split names (k ∷ ks) = by (is_mark mark.LeftParenthesis k && not (begins_spec names ks)) refl (opened_split names ks)
  where
    by : (b : Bool) → (is_mark mark.LeftParenthesis k && not (begins_spec names ks)) ≡ b → ks ≡ opens (opened names ks).0 (opened names ks).1 → k ∷ ks ≡ opens (opened names (k ∷ ks)).0 (opened names (k ∷ ks)).1
    by true seen more = rw seen (ap (λ c. c ∷ ks) (mark_is mark.LeftParenthesis k (not (begins_spec names ks)) seen) ∙ ap (λ us. Mark mark.LeftParenthesis ∷ us) more ∙ opens_first (opened names ks).0 (opened names ks).1)
    by false seen more = rw seen refl

-- what a reader with no more to read answers
pub pure_parts : {A : Type 0} (p : WithHeight A) (y : A) (k : ℕ) (ts rest : Kinds) → pure p ts ≡ Some ((y, k), rest) → (y ≡ p.0) × (k ≡ p.1) × (rest ≡ ts)
pure_parts {A} p y k ts rest is = let b = found_both is in let same : ◌≡◌ {A = A × ℕ} p (y, k) = b.0 in (sym (ap (λ (r : A × ℕ). r.0) same), sym (ap (λ (r : A × ℕ). r.1) same), sym b.1)

-- so what holds of the one holds of the other
pub pure_holds : {A : Type 0} {p : WithHeight A} {y : A} {k : ℕ} {ts rest : Kinds} (P : A → ℕ → Kinds → Type 0) → pure p ts ≡ Some ((y, k), rest) → P p.0 p.1 ts → P y k rest
pure_holds {A} {p} {y} {k} {ts} {rest} P is holds = let l = pure_parts p y k ts rest is in subst (λ z. P z k rest) (sym l.0) (subst (λ h. P p.0 h rest) (sym l.1) (subst (λ us. P p.0 p.1 us) (sym l.2) holds))

pub pure_answer : {A : Type 0} {p : WithHeight A} {y : A} {k : ℕ} {us rest : Kinds} (R : ℕ → Kinds → A → Type 0) (depth : ℕ) (ts : Kinds) → pure p us ≡ Some ((y, k), rest) → ReadsPrefix R depth ts p.0 p.1 us → ReadsPrefix R depth ts y k rest
pure_answer R depth ts is holds = pure_holds (λ z h vs. ReadsPrefix R depth ts z h vs) is holds

pub push : {ts ks : Kinds} {k : Kind} (more rest : Kinds) → ts ≡ k ∷ ks → ks ≡ more ++ rest → ts ≡ (k ∷ more) ++ rest
push {k = k} more rest split on = split ∙ ap (λ us. k ∷ us) on

pub stop : {ts ks rest : Kinds} {k : Kind} → ts ≡ k ∷ ks → rest ≡ ks → ts ≡ (k ∷ []) ++ rest
stop {k = k} split on = split ∙ ap (λ us. k ∷ us) (sym on)

-- a height of which each part is low
pub max_low : (a b n : ℕ) → a ≤ n → b ≤ n → max a b ≤ n
max_low a b n la lb = omega arith

pub zero_low : (n : ℕ) → 0 ≤ n
zero_low n = omega arith

-- one deeper
pub above_low : (h n : ℕ) → h ≤ n → 1 + h ≤ suc n
above_low h n low = omega arith

-- at least one deep
pub one_low : (n : ℕ) → 1 ≤ suc n
one_low n = omega arith
