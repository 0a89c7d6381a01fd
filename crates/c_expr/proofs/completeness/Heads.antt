-- The heads before an operand are taken as the grammar has them.
use Rattle.std.proofs.Common.{◌≡◌, ℕ, ℤ, zero, suc, ◌+◌, ◌≤◌, inl, inr, max, true, false, List, [], ◌∷◌, ◌++◌, Some, refl, ap, ◌∙◌, arith, append_assoc}
use Rattle.c_tokens.specs.declared.token.Keyword.TheVariants as word
use Rattle.c_tokens.specs.declared.token.Kind.TheVariants.{Word, Name, Number, Text, Mark}
use Rattle.c_tokens.specs.declared.token.Mark.TheVariants as mark
use Rattle.c_tree.specs.declared.operator.UnaryOperator.{UnaryOperator}
use Rattle.c_tree.specs.declared.operator.UnaryOperator.TheVariants as unary
use Rattle.c_tree.specs.declared.expression.Expr.{Expr}
use Rattle.c_tree.specs.declared.expression.Expr.TheVariants as e
use Rattle.c_tree.specs.declared.expression.TypeWord.{TypeWord}
use Rattle.c_tree.specs.Marks.{Kinds, wrapped, unary_mark, cast_level, unary_level}
use Rattle.c_tree.specs.Grammar.{IsFree, ExprReads, ExprForm, TypeWordReads}
use Rattle.c_readers.specs.declared.operand.Operand.{Operand}
use Rattle.c_readers.specs.inner.Parser.{same_mark}
use Rattle.c_readers.specs.inner.Readers.{Readers, head, prefixed, cast, sizeof, unary_behind, operand, leaf, opens_type, begins_spec, close, level_in}
use Rattle.c_expr.specs.Theorems.{AreComplete}
use Rattle.c_readers.specs.inner.ParserLemmas.{expect_is, same_mark_is}
use Rattle.c_expr.proofs.TypeNames.{free_is_no_type_name}
use Rattle.c_expr.specs.FirstTokens.{Begins, CanBeginExpression}
use Rattle.c_expr.specs.inner.FirstTokensLemmas.{Begins-append}
use Rattle.c_expr.proofs.FormsBegin.{Begins-wrapped, ExprForm-begins, TypeWordReads-begins, no_spec, some_spec}
use Rattle.c_expr.proofs.completeness.Operands.{binary_most, level_in_head}

-- ---- an operand of `sizeof` doesn't begin with a type in parentheses

unary_opens : (op : UnaryOperator) → same_mark (unary_mark op) mark.LeftParenthesis ≡ false
unfolding same_mark
unary_opens unary.Address = refl
unary_opens unary.Dereference = refl
unary_opens unary.Negate = refl
unary_opens unary.Complement = refl
unary_opens unary.Not = refl

increment_opens : same_mark mark.Increment mark.LeftParenthesis ≡ false
unfolding same_mark
increment_opens = refl

decrement_opens : same_mark mark.Decrement mark.LeftParenthesis ≡ false
unfolding same_mark
decrement_opens = refl

at_tokens : (names : List (List ℕ)) (ts us rest : Kinds) → ts ≡ us → opens_type names (us ++ rest) ≡ false → opens_type names (ts ++ rest) ≡ false
at_tokens names ts us rest is h = rw is h

at_prefix : (names : List (List ℕ)) (ts us vs rest : Kinds) → ts ≡ us ++ vs → opens_type names (us ++ (vs ++ rest)) ≡ false → opens_type names (ts ++ rest) ≡ false
at_prefix names ts us vs rest is h = rw (is, append_assoc us vs rest) h

in_pairs : (names : List (List ℕ)) (pairs : ℕ) (ts rest : Kinds) → Begins (CanBeginExpression names) ts → opens_type names (wrapped (suc pairs) ts ++ rest) ≡ false
in_pairs names pairs ts rest begins =
    rw (no_spec names ((wrapped pairs ts ++ Mark mark.RightParenthesis ∷ []) ++ rest) (Begins-append _ (wrapped pairs ts ++ Mark mark.RightParenthesis ∷ []) rest (Begins-append _ (wrapped pairs ts) _ (Begins-wrapped names pairs ts begins))))
    (rw (same_mark_is mark.LeftParenthesis))

mutual
  pub opens_no_type : {names : List (List ℕ)} {least h : ℕ} {ts : Kinds} {e : Expr} → ExprReads names least h ts e → unary_level ≤ least → (rest : Kinds) → opens_type names (ts ++ rest) ≡ false
  opens_no_type {names} (ExprReads.reads least h ts e zero level inner few (inl le) is form) tight rest = at_tokens names ts inner rest is (form_opens_no_type form (omega arith) rest)
  opens_no_type (ExprReads.reads least h ts e zero level inner few (inr lt) is form) tight rest = absurd (omega arith)
  opens_no_type {names} (ExprReads.reads least h ts e (suc pairs) level inner few fits is form) tight rest = at_tokens names ts (wrapped (suc pairs) inner) rest is (in_pairs names pairs inner rest (ExprForm-begins form))

  form_opens_no_type : {names : List (List ℕ)} {level h : ℕ} {ts : Kinds} {e : Expr} → ExprForm names level h ts e → unary_level ≤ level → (rest : Kinds) → opens_type names (ts ++ rest) ≡ false
  form_opens_no_type (ExprForm.assign level h ts e a b op ha hb ats bs l hi is ei left right) tight rest = absurd (omega arith)
  form_opens_no_type (ExprForm.conditional level h ts e c a b hc ha hb cs ats bs l hi is ei test then otherwise) tight rest = absurd (omega arith)
  form_opens_no_type (ExprForm.binary level h ts e a b op ha hb ats bs l hi is ei left right) tight rest = let most = binary_most op in absurd (omega arith)
  form_opens_no_type (ExprForm.cast level h ts e t a ht ha tts ats l hi is ei ty right) tight rest = absurd (omega arith)
  form_opens_no_type {names} (ExprForm.pre_increment level h ts e a ha ats l hi is ei right) tight rest = at_tokens names ts (Mark mark.Increment ∷ ats) rest is (rw increment_opens)
  form_opens_no_type {names} (ExprForm.pre_decrement level h ts e a ha ats l hi is ei right) tight rest = at_tokens names ts (Mark mark.Decrement ∷ ats) rest is (rw decrement_opens)
  form_opens_no_type {names} (ExprForm.unary level h ts e a op ha ats l hi is ei right) tight rest = at_tokens names ts (Mark (unary_mark op) ∷ ats) rest is (rw (unary_opens op))
  form_opens_no_type {names} (ExprForm.sizeof_expression level h ts e a ha ats l hi is ei right) tight rest = at_tokens names ts (Word word.Sizeof ∷ ats) rest is refl
  form_opens_no_type {names} (ExprForm.sizeof_type level h ts e t ht tts l hi is ei ty) tight rest = at_tokens names ts (Word word.Sizeof ∷ wrapped 1 tts) rest is refl
  form_opens_no_type {names} (ExprForm.index level h ts e a i ha ii ats its l hi is ei left place) tight rest =
      at_prefix names ts ats (Mark mark.LeftBracket ∷ (its ++ Mark mark.RightBracket ∷ [])) rest (is ∙ append_assoc ats (Mark mark.LeftBracket ∷ its) (Mark mark.RightBracket ∷ [])) (opens_no_type left (omega arith) _)
  form_opens_no_type {names} (ExprForm.call level h ts e f arguments hf ha fs ats l hi is ei left given) tight rest = at_prefix names ts fs (wrapped 1 ats) rest is (opens_no_type left (omega arith) _)
  form_opens_no_type {names} (ExprForm.member level h ts e a x ha ats l hi free is ei left) tight rest = at_prefix names ts ats (Mark mark.Dot ∷ Name x ∷ []) rest is (opens_no_type left (omega arith) _)
  form_opens_no_type {names} (ExprForm.arrow level h ts e a x ha ats l hi free is ei left) tight rest = at_prefix names ts ats (Mark mark.Arrow ∷ Name x ∷ []) rest is (opens_no_type left (omega arith) _)
  form_opens_no_type {names} (ExprForm.post_increment level h ts e a ha ats l hi is ei left) tight rest = at_prefix names ts ats (Mark mark.Increment ∷ []) rest is (opens_no_type left (omega arith) _)
  form_opens_no_type {names} (ExprForm.post_decrement level h ts e a ha ats l hi is ei left) tight rest = at_prefix names ts ats (Mark mark.Decrement ∷ []) rest is (opens_no_type left (omega arith) _)
  form_opens_no_type {names} (ExprForm.identifier level h ts e x l hi free is ei) tight rest = at_tokens names ts (Name x ∷ []) rest is refl
  form_opens_no_type {names} (ExprForm.number level h ts e n l hi is ei) tight rest = at_tokens names ts (Number n ∷ []) rest is refl
  form_opens_no_type {names} (ExprForm.text level h ts e bytes l hi is ei) tight rest = at_tokens names ts (Text bytes ∷ []) rest is refl

-- ---- heads, with so many parentheses open

module _ (names : List (List ℕ)) (r : Readers) (n least k : ℕ) where
  -- what the tokens lead to
  abbrev pub Leads : Kinds → Operand → Kinds → Type 0
  Leads ts o rest = level_in names r n least k ts ≡ close names r n least k o rest

  pub name_leads : (x : List ℕ) (rest : Kinds) → IsFree names x → Leads (Name x ∷ rest) (leaf (e.Identifier x)) rest
  unfolding head
  name_leads x rest free = level_in_head names r n least k (Name x) rest _ rest refl (rw (free_is_no_type_name names x free))

  pub number_leads : (m : ℤ) (rest : Kinds) → Leads (Number m ∷ rest) (leaf (e.Number m)) rest
  unfolding head
  number_leads m rest = level_in_head names r n least k (Number m) rest _ rest refl refl

  pub text_leads : (bytes : List ℕ) (rest : Kinds) → Leads (Text bytes ∷ rest) (leaf (e.Text bytes)) rest
  unfolding head
  text_leads bytes rest = level_in_head names r n least k (Text bytes) rest _ rest refl refl

  pub pre_increment_leads : (ts : Kinds) (a : Expr) (h : ℕ) (rest : Kinds) → r.expr unary_level ts ≡ Some ((a, h), rest) → Leads (Mark mark.Increment ∷ ts) (operand unary_level (e.PreIncrement a) (1 + h)) rest
  unfolding head prefixed
  pre_increment_leads ts a h rest is = level_in_head names r n least k (Mark mark.Increment) ts _ rest (rw increment_opens) (rw is)

  pub pre_decrement_leads : (ts : Kinds) (a : Expr) (h : ℕ) (rest : Kinds) → r.expr unary_level ts ≡ Some ((a, h), rest) → Leads (Mark mark.Decrement ∷ ts) (operand unary_level (e.PreDecrement a) (1 + h)) rest
  unfolding head prefixed
  pre_decrement_leads ts a h rest is = level_in_head names r n least k (Mark mark.Decrement) ts _ rest (rw decrement_opens) (rw is)

  unary_prefix : (op : UnaryOperator) → prefixed names r (unary_mark op) ≡ unary_behind names r op
  unfolding prefixed
  unary_prefix unary.Address = refl
  unary_prefix unary.Dereference = refl
  unary_prefix unary.Negate = refl
  unary_prefix unary.Complement = refl
  unary_prefix unary.Not = refl

  pub unary_leads : (op : UnaryOperator) (ts : Kinds) (a : Expr) (h : ℕ) (rest : Kinds) → r.expr cast_level ts ≡ Some ((a, h), rest) → Leads (Mark (unary_mark op) ∷ ts) (operand unary_level (e.Unary op a) (1 + h)) rest
  unfolding head unary_behind
  unary_leads op ts a h rest is = level_in_head names r n least k (Mark (unary_mark op)) ts _ rest (rw (unary_opens op)) (ap (λ p. p ts) (unary_prefix op) ∙ rw is)

  pub sizeof_leads : (ts : Kinds) (a : Expr) (h : ℕ) (rest : Kinds) → opens_type names ts ≡ false → r.expr unary_level ts ≡ Some ((a, h), rest) → Leads (Word word.Sizeof ∷ ts) (operand unary_level (e.SizeofExpr a) (1 + h)) rest
  unfolding head sizeof
  sizeof_leads ts a h rest no_type is = level_in_head names r n least k (Word word.Sizeof) ts _ rest refl (rw no_type (rw is))

  module _ (full : AreComplete names n r) where
    word_taken : {ht : ℕ} {tts : Kinds} {t : TypeWord} → ht ≤ n → TypeWordReads names ht tts t → (rest : Kinds) → r.type_word (tts ++ Mark mark.RightParenthesis ∷ rest) ≡ Some ((t, ht), Mark mark.RightParenthesis ∷ rest)
    word_taken {ht} {tts} {t} deep read rest = full.type_word ht tts t deep read (Mark mark.RightParenthesis ∷ rest) (rest, refl)

    word_begins : {ht : ℕ} {tts : Kinds} {t : TypeWord} → TypeWordReads names ht tts t → (rest : Kinds) → begins_spec names (tts ++ rest) ≡ true
    word_begins {tts = tts} read rest = some_spec names (tts ++ rest) (Begins-append _ tts rest (TypeWordReads-begins read))

    pub sizeof_type_leads : {ht : ℕ} {tts : Kinds} {t : TypeWord} → ht ≤ n → TypeWordReads names ht tts t → (rest : Kinds)
        → Leads (Word word.Sizeof ∷ Mark mark.LeftParenthesis ∷ (tts ++ Mark mark.RightParenthesis ∷ rest)) (operand unary_level (e.SizeofType t) (1 + ht)) rest
    unfolding head sizeof
    sizeof_type_leads {ht} {tts} {t} deep read rest =
        let more = tts ++ Mark mark.RightParenthesis ∷ rest in
        level_in_head names r n least k (Word word.Sizeof) (Mark mark.LeftParenthesis ∷ more) _ rest refl (
        rw (same_mark_is mark.LeftParenthesis) (rw (word_begins read (Mark mark.RightParenthesis ∷ rest)) (rw (expect_is mark.LeftParenthesis more) (rw (word_taken deep read rest) (rw (expect_is mark.RightParenthesis rest))))))

    pub cast_leads : {ht : ℕ} {tts : Kinds} {t : TypeWord} → ht ≤ n → TypeWordReads names ht tts t → (ts : Kinds) (a : Expr) (h : ℕ) (rest : Kinds) → r.expr cast_level ts ≡ Some ((a, h), rest)
        → Leads (Mark mark.LeftParenthesis ∷ (tts ++ Mark mark.RightParenthesis ∷ ts)) (operand cast_level (e.Cast t a) (1 + max ht h)) rest
    unfolding head prefixed cast
    cast_leads {ht} {tts} {t} deep read ts a h rest is =
        level_in_head names r n least k (Mark mark.LeftParenthesis) (tts ++ Mark mark.RightParenthesis ∷ ts) _ rest
        (rw (word_begins read (Mark mark.RightParenthesis ∷ ts), same_mark_is mark.LeftParenthesis)) (rw (word_taken deep read ts) (rw (expect_is mark.RightParenthesis ts) (rw is)))
