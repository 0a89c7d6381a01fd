-- What each form begins with, that none of them is empty, and what the test for specs says of them.
use Rattle.std.proofs.Common.{◌≡◌, ◌≢◌, ℕ, zero, suc, Bool, true, false, IsTrue, List, [], ◌∷◌, ◌++◌, refl, subst}
use Rattle.std.proofs.lemmas.Bool.{false≢true}
use Rattle.c_tokens.specs.declared.token.Keyword.TheVariants as word
use Rattle.c_tokens.specs.declared.token.Kind.{Kind}
use Rattle.c_tokens.specs.declared.token.Kind.TheVariants.{Word, Name, Number, Text, Mark}
use Rattle.c_tokens.specs.declared.token.Mark.TheVariants as mark
use Rattle.c_tree.specs.declared.expression.Expr.{Expr}
use Rattle.c_tree.specs.declared.expression.Spec.{Spec}
use Rattle.c_tree.specs.declared.expression.TypeWord.{TypeWord}
use Rattle.c_tree.specs.declared.operator.UnaryOperator.{UnaryOperator}
use Rattle.c_tree.specs.declared.operator.UnaryOperator.TheVariants as unary
use Rattle.c_tree.specs.Marks.{Kinds, wrapped, unary_mark}
use Rattle.c_tree.specs.Grammar.{SpecReads, TypeWordReads, ExprReads, ExprForm}
use Rattle.c_expr.specs.FirstTokens.{Begins, mark_begins_expression, word_begins_spec, CanBeginExpression, CanBeginSpec}
use Rattle.c_expr.specs.inner.FirstTokensLemmas.{Begins-append, Begins-same}
use Rattle.c_readers.specs.inner.Readers.{begins_spec, kind_begins_spec}
use Rattle.c_expr.proofs.TypeNames.{free_is_no_type_name, contains_type_name}

pub Begins-some : (P : Kind → Type 0) (ts : Kinds) → Begins P ts → ts ≢ []
Begins-some P ts h is = subst (λ ks. Begins P ks) is h

pub Begins-wrapped : (names : List (List ℕ)) (pairs : ℕ) (ts : Kinds) → Begins (CanBeginExpression names) ts → Begins (CanBeginExpression names) (wrapped pairs ts)
Begins-wrapped names zero ts h = h
Begins-wrapped names (suc pairs) ts h = refl

unary_begins : (op : UnaryOperator) → IsTrue (mark_begins_expression (unary_mark op))
unary_begins unary.Address = refl
unary_begins unary.Dereference = refl
unary_begins unary.Negate = refl
unary_begins unary.Complement = refl
unary_begins unary.Not = refl

mutual
  pub ExprReads-begins : {names : List (List ℕ)} {least h : ℕ} {ts : Kinds} {e : Expr} → ExprReads names least h ts e → Begins (CanBeginExpression names) ts
  ExprReads-begins {names} (ExprReads.reads least h ts e pairs level inner few fits is form) = Begins-same _ is (Begins-wrapped names pairs inner (ExprForm-begins form))

  pub ExprForm-begins : {names : List (List ℕ)} {level h : ℕ} {ts : Kinds} {e : Expr} → ExprForm names level h ts e → Begins (CanBeginExpression names) ts
  ExprForm-begins (ExprForm.assign level h ts e a b op ha hb ats bs l hi is ei left right) = Begins-same _ is (Begins-append _ ats _ (ExprReads-begins left))
  ExprForm-begins (ExprForm.conditional level h ts e c a b hc ha hb cs ats bs l hi is ei test then otherwise) =
      Begins-same _ is (Begins-append _ (cs ++ Mark mark.Question ∷ ats) _ (Begins-append _ cs _ (ExprReads-begins test)))
  ExprForm-begins (ExprForm.binary level h ts e a b op ha hb ats bs l hi is ei left right) = Begins-same _ is (Begins-append _ ats _ (ExprReads-begins left))
  ExprForm-begins (ExprForm.cast level h ts e t a ht ha tts ats l hi is ei ty operand) = Begins-same _ is refl
  ExprForm-begins (ExprForm.pre_increment level h ts e a ha ats l hi is ei operand) = Begins-same _ is refl
  ExprForm-begins (ExprForm.pre_decrement level h ts e a ha ats l hi is ei operand) = Begins-same _ is refl
  ExprForm-begins (ExprForm.unary level h ts e a op ha ats l hi is ei operand) = Begins-same _ is (unary_begins op)
  ExprForm-begins (ExprForm.sizeof_expression level h ts e a ha ats l hi is ei operand) = Begins-same _ is refl
  ExprForm-begins (ExprForm.sizeof_type level h ts e t ht tts l hi is ei ty) = Begins-same _ is refl
  ExprForm-begins (ExprForm.index level h ts e a i ha ii ats its l hi is ei left place) =
      Begins-same _ is (Begins-append _ (ats ++ Mark mark.LeftBracket ∷ its) _ (Begins-append _ ats _ (ExprReads-begins left)))
  ExprForm-begins (ExprForm.call level h ts e f arguments hf ha fs ats l hi is ei left given) = Begins-same _ is (Begins-append _ fs _ (ExprReads-begins left))
  ExprForm-begins (ExprForm.member level h ts e a x ha ats l hi free is ei left) = Begins-same _ is (Begins-append _ ats _ (ExprReads-begins left))
  ExprForm-begins (ExprForm.arrow level h ts e a x ha ats l hi free is ei left) = Begins-same _ is (Begins-append _ ats _ (ExprReads-begins left))
  ExprForm-begins (ExprForm.post_increment level h ts e a ha ats l hi is ei left) = Begins-same _ is (Begins-append _ ats _ (ExprReads-begins left))
  ExprForm-begins (ExprForm.post_decrement level h ts e a ha ats l hi is ei left) = Begins-same _ is (Begins-append _ ats _ (ExprReads-begins left))
  ExprForm-begins (ExprForm.identifier level h ts e x l hi free is ei) = Begins-same _ is free
  ExprForm-begins (ExprForm.number level h ts e n l hi is ei) = Begins-same _ is tt
  ExprForm-begins (ExprForm.text level h ts e bytes l hi is ei) = Begins-same _ is tt

pub SpecReads-begins : {names : List (List ℕ)} {bodies : Bool} {h : ℕ} {ts : Kinds} {s : Spec} → SpecReads names bodies h ts s → Begins (CanBeginSpec names) ts
SpecReads-begins (SpecReads.int bodies h ts s hi is si) = Begins-same _ is refl
SpecReads-begins (SpecReads.char bodies h ts s hi is si) = Begins-same _ is refl
SpecReads-begins (SpecReads.void bodies h ts s hi is si) = Begins-same _ is refl
SpecReads-begins (SpecReads.type_name bodies h ts s x hi known is si) = Begins-same _ is known
SpecReads-begins (SpecReads.tag bodies h ts s x hi free is si) = Begins-same _ is refl
SpecReads-begins (SpecReads.body bodies h ts s x hm ms members may hi free is si some read) = Begins-same _ is refl

pub TypeWordReads-begins : {names : List (List ℕ)} {h : ℕ} {ts : Kinds} {t : TypeWord} → TypeWordReads names h ts t → Begins (CanBeginSpec names) ts
TypeWordReads-begins (TypeWordReads.type_word h ts t s a hs ha ss ats hi is ti spec abstract) = Begins-same _ is (Begins-append _ ss _ (SpecReads-begins spec))

-- no token begins both an expression and a spec
pub begins_one : (names : List (List ℕ)) (k : Kind) → CanBeginExpression names k → CanBeginSpec names k → ⊥
begins_one names (Word w) e s = false≢true (subst (λ v. IsTrue (word_begins_spec v)) e s)
begins_one names (Name x) e s = e s
begins_one names (Number n) e s = s
begins_one names (Text bytes) e s = s
begins_one names (Mark m) e s = s

pub begin_apart : (names : List (List ℕ)) (ts : Kinds) → Begins (CanBeginExpression names) ts → Begins (CanBeginSpec names) ts → ⊥
begin_apart names [] e s = e
begin_apart names (k ∷ ks) e s = begins_one names k e s

-- no text begins both with an expression and with a spec
pub no_expression_and_spec : {names : List (List ℕ)} {bodies : Bool} {least he hs : ℕ} {es ss : Kinds} {e : Expr} {s : Spec} (x y : Kinds) → ExprReads names least he es e → SpecReads names bodies hs ss s → es ++ x ≡ ss ++ y → ⊥
no_expression_and_spec {names} {es = es} {ss = ss} x y e s is =
    begin_apart names (es ++ x) (Begins-append _ es x (ExprReads-begins e)) (Begins-same _ is (Begins-append _ ss y (SpecReads-begins s)))

pub ExprReads-some : {names : List (List ℕ)} {least h : ℕ} {ts : Kinds} {e : Expr} → ExprReads names least h ts e → ts ≢ []
ExprReads-some r = Begins-some _ _ (ExprReads-begins r)

pub SpecReads-some : {names : List (List ℕ)} {bodies : Bool} {h : ℕ} {ts : Kinds} {s : Spec} → SpecReads names bodies h ts s → ts ≢ []
SpecReads-some r = Begins-some _ _ (SpecReads-begins r)

pub TypeWordReads-some : {names : List (List ℕ)} {h : ℕ} {ts : Kinds} {t : TypeWord} → TypeWordReads names h ts t → ts ≢ []
TypeWordReads-some r = Begins-some _ _ (TypeWordReads-begins r)

-- ---- the test for specs

no_spec_kind : (names : List (List ℕ)) (k : Kind) → CanBeginExpression names k → kind_begins_spec names k ≡ false
no_spec_kind names (Word w) is = rw is
no_spec_kind names (Name x) free = free_is_no_type_name names x free
no_spec_kind names (Number m) is = refl
no_spec_kind names (Text bytes) is = refl
no_spec_kind names (Mark m) is = refl

-- what begins an expression begins no spec
pub no_spec : (names : List (List ℕ)) (ts : Kinds) → Begins (CanBeginExpression names) ts → begins_spec names ts ≡ false
no_spec names [] b = refl
no_spec names (k ∷ ks) b = no_spec_kind names k b

spec_kind : (names : List (List ℕ)) (k : Kind) → CanBeginSpec names k → kind_begins_spec names k ≡ true
spec_kind names (Word word.Int) is = refl
spec_kind names (Word word.Char) is = refl
spec_kind names (Word word.Void) is = refl
spec_kind names (Word word.Struct) is = refl
spec_kind names (Word _) is = cc
spec_kind names (Name x) is = contains_type_name names x is
spec_kind names (Number m) is = absurd is
spec_kind names (Text bytes) is = absurd is
spec_kind names (Mark m) is = absurd is

pub some_spec : (names : List (List ℕ)) (ts : Kinds) → Begins (CanBeginSpec names) ts → begins_spec names ts ≡ true
some_spec names [] b = absurd b
some_spec names (k ∷ ks) b = spec_kind names k b
