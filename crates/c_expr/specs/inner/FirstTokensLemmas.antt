-- What the tests of marks say of tokens that begin with a form, and of a mark that stands behind one.
use Rattle.std.proofs.Common.{◌≡◌, ℕ, inl, inr, Bool, true, false, List, [], ◌∷◌, ◌++◌, None, refl, sym, ap, subst}
use Rattle.c_tokens.specs.declared.token.Kind.{Kind}
use Rattle.c_tokens.specs.declared.token.Kind.TheVariants.{Word, Name, Number, Text, Mark}
use Rattle.c_tokens.specs.declared.token.Mark.{Mark as MarkName}
use Rattle.c_tokens.specs.declared.token.Mark.TheVariants as mark
use Rattle.c_tree.specs.Marks.{Kinds}
use Rattle.c_expr.specs.FirstTokens.{Begins, mark_begins_expression, CanBeginExpression, CanBeginSpec, CanBeginDeclarator}
use Rattle.c_expr.specs.Theorems.{Lacks, Stops}
use Rattle.c_readers.specs.inner.Parser.{same_mark}
use Rattle.c_readers.specs.inner.ParserLemmas.{same_mark_true}
use Rattle.c_readers.specs.inner.Readers.{continuation_of}

pub Begins-append : (P : Kind → Type 0) (ts rest : Kinds) → Begins P ts → Begins P (ts ++ rest)
Begins-append P [] rest h = absurd h
Begins-append P (k ∷ ks) rest h = h

pub Begins-same : (P : Kind → Type 0) {ts us : Kinds} → ts ≡ us → Begins P us → Begins P ts
Begins-same P is h = subst (λ ks. Begins P ks) (sym is) h

other_mark_by : (P : MarkName → Bool) (m n : MarkName) (b : Bool) → same_mark n m ≡ b → P m ≡ false → P n ≡ true → b ≡ false
other_mark_by P m n true is no_m yes_n = let same : n ≡ m = same_mark_true n m is in let e = ap P same in cc
other_mark_by P m n false is no_m yes_n = refl

-- a test tells the marks apart
pub other_mark : (P : MarkName → Bool) (m n : MarkName) → P m ≡ false → P n ≡ true → same_mark n m ≡ false
other_mark P m n no_m yes_n = other_mark_by P m n (same_mark n m) refl no_m yes_n

-- an expression begins with no mark but those that can begin one
pub expression_lacks : (names : List (List ℕ)) (m : MarkName) (ts : Kinds) → mark_begins_expression m ≡ false → Begins (CanBeginExpression names) ts → Lacks m ts
expression_lacks names m [] none b = refl
expression_lacks names m (Word w ∷ ks) none b = refl
expression_lacks names m (Name x ∷ ks) none b = refl
expression_lacks names m (Number n ∷ ks) none b = refl
expression_lacks names m (Text bytes ∷ ks) none b = refl
expression_lacks names m (Mark n ∷ ks) none b = other_mark mark_begins_expression m n none b

-- a spec begins with no mark
pub spec_lacks : (names : List (List ℕ)) (m : MarkName) (ts : Kinds) → Begins (CanBeginSpec names) ts → Lacks m ts
spec_lacks names m [] b = refl
spec_lacks names m (Word w ∷ ks) b = refl
spec_lacks names m (Name x ∷ ks) b = refl
spec_lacks names m (Number n ∷ ks) b = refl
spec_lacks names m (Text bytes ∷ ks) b = refl
spec_lacks names m (Mark n ∷ ks) b = absurd b

-- none of `(`, `*` and `[`
pub record OpensNothing (m : MarkName) : Type 0 where
  pub parenthesis : same_mark mark.LeftParenthesis m ≡ false
  pub star : same_mark mark.Star m ≡ false
  pub bracket : same_mark mark.LeftBracket m ≡ false

pub brace_opens_nothing : OpensNothing mark.LeftBrace
unfolding same_mark
brace_opens_nothing = record { parenthesis = refl; star = refl; bracket = refl }

-- a declarator begins with no mark but `(` and `*`
pub declarator_lacks : (names : List (List ℕ)) (m : MarkName) (ts : Kinds) → OpensNothing m → Begins (CanBeginDeclarator names) ts → Lacks m ts
declarator_lacks names m [] o b = refl
declarator_lacks names m (Word w ∷ ks) o b = refl
declarator_lacks names m (Name x ∷ ks) o b = refl
declarator_lacks names m (Number n ∷ ks) o b = refl
declarator_lacks names m (Text bytes ∷ ks) o b = refl
declarator_lacks names m (Mark n ∷ ks) o (inl is) = rw is o.parenthesis
declarator_lacks names m (Mark n ∷ ks) o (inr is) = rw is o.star

-- at a mark that no operand goes on with, any operand stops
pub stops_at : (least : ℕ) (m : MarkName) (ks : Kinds) → continuation_of m ≡ None → Stops least (Mark m ∷ ks)
stops_at least m ks is c goes = cc
