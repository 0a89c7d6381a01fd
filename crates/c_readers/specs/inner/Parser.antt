-- A parser takes tokens from those that come. It answers what they are and the tokens behind, or nothing where they are none of it.
use Rattle.std.specs.Prelude.{ℕ, zero, suc, Bool, false, if◌then◌else◌, List, [], ◌∷◌, ◌++◌, length, max, Option, Some, None}
use denote.Enum.Bare.{sameb}
use Rattle.c_tokens.specs.contracts.token.Keyword.{the_type as the_keywords}
use Rattle.c_tokens.specs.contracts.token.Mark.{the_type as the_marks}
use Rattle.c_tokens.specs.declared.token.Keyword.{Keyword}
use Rattle.c_tokens.specs.declared.token.Kind.{Kind}
use Rattle.c_tokens.specs.declared.token.Kind.TheVariants.{Word, Mark}
use Rattle.c_tokens.specs.declared.token.Mark.{Mark as MarkName}
use Rattle.c_tokens.specs.declared.token.Mark.TheVariants as mark
use Rattle.c_tree.specs.Marks.{Kinds}

abbrev pub Outcome : Type 0 → Type 0
Outcome A = Option (A × Kinds)

abbrev pub Parser : Type 0 → Type 0
Parser A = Kinds → Outcome A

abbrev pub and_then : {A B : Type 0} → Outcome A → (A → Parser B) → Outcome B
and_then (Some p) f = f p.0 p.1
and_then None f = None

infixl 10 ◌>>=◌
abbrev pub ◌>>=◌ : {A B : Type 0} → Parser A → (A → Parser B) → Parser B
p >>= f = λ ts. and_then (p ts) f

infixl 10 ◌>>◌
abbrev pub ◌>>◌ : {A B : Type 0} → Parser A → Parser B → Parser B
p >> q = p >>= (λ _. q)

abbrev pub pure : {A : Type 0} → A → Parser A
pure a = λ ts. Some (a, ts)

abbrev pub mismatch : {A : Type 0} → Parser A
mismatch = λ ts. None

-- a tree, and how deep its nodes are
abbrev pub WithHeight : Type 0 → Type 0
WithHeight A = A × ℕ

unfoldable pub same_mark : MarkName → MarkName → Bool
same_mark = sameb the_marks

unfoldable pub same_word : Keyword → Keyword → Bool
same_word = sameb the_keywords

abbrev pub is_mark : MarkName → Kind → Bool
is_mark m (Mark n) = same_mark n m
is_mark m _ = false

abbrev pub is_word : Keyword → Kind → Bool
is_word w (Word v) = same_word v w
is_word w _ = false

-- the first token is this mark
abbrev pub sees : MarkName → Kinds → Bool
sees m [] = false
sees m (k ∷ ks) = is_mark m k

abbrev pub behind : Kinds → Kinds
behind [] = []
behind (k ∷ ks) = ks

abbrev pub first : Kinds → Option Kind
first [] = None
first (k ∷ ks) = Some k

unfoldable pub after : MarkName → Kinds → Kinds
after m ts = if sees m ts then behind ts else ts

-- takes the mark, if it comes next
abbrev pub eat : MarkName → Parser Bool
eat m = λ ts. Some (sees m ts, after m ts)

unfoldable pub expect : MarkName → Parser (Unit {0})
expect m = λ ts. if sees m ts then Some (tt, behind ts) else None

-- how many of this mark come, and the tokens behind them
abbrev pub run : MarkName → Kinds → ℕ × Kinds
run m [] = (0, [])
run m (k ∷ ks) = let more = run m ks in if is_mark m k then (suc more.0, more.1) else (0, k ∷ ks)

-- ---- lists. The number bounds the turns, and each turn takes a token, so the count of tokens is enough.

unfoldable pub separated_from : {A : Type 0} → Parser (WithHeight A) → ℕ → List A → ℕ → Parser (WithHeight (List A))
separated_from item zero found height = mismatch
separated_from item (suc n) found height = do
  x ← item
  more ← eat mark.Comma
  if more then separated_from item n (found ++ x.0 ∷ []) (max height x.1) else pure (found ++ x.0 ∷ [], max height x.1)

-- at least one, with commas between
unfoldable pub separated : {A : Type 0} → Parser (WithHeight A) → Parser (WithHeight (List A))
separated item = λ ts. separated_from item (length ts) [] 0 ts
