-- Operands: what grows by the parts behind it, and closes the parentheses before it, is an expression of the grammar.
use Rattle.std.proofs.Common.{◌≡◌, ℕ, zero, suc, ◌+◌, ◌<◌, ◌≤◌, ◌⊎◌, inl, inr, max, Bool, true, ◌&&◌, nat_le, nat_lt, List, [], ◌∷◌, ◌++◌, Option, Some, None, refl, sym, ap, subst, ◌∙◌, arith, length}
use Rattle.std.proofs.Math.Nat.{zero-add}
use Rattle.std.proofs.lemmas.Bool.{leb-true}
use Rattle.std.proofs.lemmas.Bool.Decides.{Decides-ltb}
use Rattle.c_tokens.specs.declared.token.Keyword.TheVariants as word
use Rattle.c_tokens.specs.declared.token.Kind.{Kind}
use Rattle.c_tokens.specs.declared.token.Kind.TheVariants.{Word, Name, Number, Text, Mark}
use Rattle.c_tokens.specs.declared.token.Mark.{Mark as MarkName}
use Rattle.c_tokens.specs.declared.token.Mark.TheVariants as mark
use Rattle.c_tree.specs.declared.operator.UnaryOperator.{UnaryOperator}
use Rattle.c_tree.specs.declared.operator.UnaryOperator.TheVariants as unary
use Rattle.c_tree.specs.declared.expression.Expr.{Expr}
use Rattle.c_tree.specs.Marks.{Kinds, wrapped, greatest_pairs, unary_mark, assign_level, cast_level, unary_level, primary_level}
use Rattle.c_tree.specs.Grammar.{ExprReads, ExprForm}
use Rattle.c_readers.specs.declared.operand.Continuation.{Continuation}
use Rattle.c_readers.specs.declared.operand.Operand.{Operand}
use Rattle.c_readers.specs.declared.operand.Part.{Part}
use Rattle.c_readers.specs.inner.Parser.{Parser, Outcome, WithHeight, behind}
use Rattle.c_readers.specs.inner.Readers.{Readers, is_type_name, continuation, whole_level, left_level, takes, taken, going_on, extended, bracketed, operand, opened, opens_type, part, grown_by, grown_with, grow_from, grow, close, sizeof, cast, unary_behind, prefixed_by, prefixed, head_by, head, level_in, level}
use Rattle.c_expr.specs.Theorems.{ReadsOnly, AreSound}
use Rattle.c_expr.proofs.TypeNames.{no_type_name_is_free}
use Rattle.c_expr.proofs.soundness.Chains.{both_true, tree_answer, pure_answer, push, opens, opened_split, max_low, zero_low, one_low, above_low}
use Rattle.c_readers.specs.inner.ParserLemmas.{both_answer, mark_answer, tested, tested_at, plain_holds, ReadsPrefix, join}
use Rattle.c_expr.proofs.soundness.Declarators.{wrapped_more}
use Rattle.c_expr.proofs.soundness.Parts.{mark_of, continuation_mark, PartReads, part_reads}

-- tokens that are an operand: a form of an expression in so many parentheses
pub record OperandReads (names : List (List ℕ)) (n : ℕ) (prefix : Kinds) (o : Operand) : Type 0 where
  pub few : o.pairs ≤ greatest_pairs
  pub form_level : ℕ
  pub inner : Kinds
  pub is : prefix ≡ wrapped o.pairs inner
  pub form : ExprForm names form_level o.height inner o.expr
  pub fits : (form_level ≡ o.level) ⊎ (0 < o.pairs)
  pub low : o.height ≤ suc n

-- an operand is an expression at its level and at each looser one
operand_expr : {names : List (List ℕ)} {n : ℕ} {prefix : Kinds} (least : ℕ) (o : Operand) → least ≤ o.level → OperandReads names n prefix o → ExprReads names least o.height prefix o.expr
operand_expr least o loose r =
    ExprReads.reads _ _ _ _ o.pairs r.form_level r.inner r.few (elim r.fits [ inl same ↦ inl (subst (λ l. least ≤ l) (sym same) loose) | inr some ↦ inr some ]) r.is r.form

simple_operand : {names : List (List ℕ)} {prefix : Kinds} {e : Expr} (n level h : ℕ) → h ≤ suc n → ExprForm names level h prefix e → OperandReads names n prefix (operand level e h)
simple_operand {prefix = prefix} n level h low form = record { few = zero_low 8; form_level = level; inner = prefix; is = refl; form = form; fits = inl refl; low = low }

-- an operand in one more pair of parentheses
bracketed_reads : {names : List (List ℕ)} {n : ℕ} {prefix : Kinds} (o : Operand) → o.pairs < greatest_pairs → OperandReads names n prefix o → OperandReads names n (Mark mark.LeftParenthesis ∷ prefix ++ Mark mark.RightParenthesis ∷ []) (bracketed o)
unfolding bracketed
bracketed_reads {prefix = prefix} o few r = record { few = omega arith; form_level = r.form_level; inner = r.inner; is = wrapped_more o.pairs prefix r.inner r.is; form = r.form; fits = inr (omega arith); low = r.low }

three_true : (a b c : Bool) → (a && b && c) ≡ true → (a ≡ true) × (b ≡ true) × (c ≡ true)
three_true a b c is = let x = both_true (a && b) c is in let y = both_true a b x.0 in (y.0, y.1, x.1)

-- an operand with what goes on behind it
extended_reads : {names : List (List ℕ)} {n : ℕ} {prefix : Kinds} (least : ℕ) (c : Continuation) (o : Operand) (p : Part) (h : ℕ) (more : Kinds) → OperandReads names n prefix o → takes n least o c ≡ true → h ≤ n → PartReads names c h more p
    → OperandReads names n (prefix ++ Mark (mark_of c) ∷ more) (extended o (p, h))
unfolding extended
extended_reads {names} {n} {prefix} least c o p h more r takes low here =
    let t = three_true (nat_le least (whole_level c)) (nat_le (left_level c) o.level) (nat_le o.height n) takes in
    record {
      few = zero_low 8;
      form_level = whole_level c;
      inner = prefix ++ Mark (mark_of c) ∷ more;
      is = refl;
      form = here.1 o.expr o.height prefix (operand_expr (left_level c) o (leb-true _ _ t.1) r);
      fits = inl (sym here.0);
      low = above_low _ n (max_low _ _ _ (leb-true _ _ t.2) low);
    }

taken_some : (n least : ℕ) (o : Operand) (g : Option Continuation) (c : Continuation) → taken n least o g ≡ Some c → (g ≡ Some c) × (takes n least o c ≡ true)
taken_some n least o None c is = cc
taken_some n least o (Some d) c is = tested (takes n least o d) _ _ _ is
    (λ fits same. (same, subst (λ b. takes n least o b ≡ true) (let e : d ≡ c = cc in e) fits))
    (λ no_fit none. cc)

going_on_some : (n least : ℕ) (o : Operand) (ts : Kinds) (c : Continuation) → going_on n least o ts ≡ Some c → (continuation ts ≡ Some c) × (takes n least o c ≡ true)
unfolding going_on
going_on_some n least o ts c is = taken_some n least o (continuation ts) c is

-- a prefix of the tokens is so
abbrev pub OperandFound : List (List ℕ) → ℕ → Kinds → Operand → Kinds → Type 0
OperandFound names n ts o rest = (prefix : Kinds) × (ts ≡ prefix ++ rest) × OperandReads names n prefix o

-- the same behind this token, which counts
abbrev OperandBehind : List (List ℕ) → ℕ → Kind → Kinds → Operand → Kinds → Type 0
OperandBehind names n k ts o rest = (prefix : Kinds) × (ts ≡ prefix ++ rest) × OperandReads names n (k ∷ prefix) o

module _ (names : List (List ℕ)) (n : ℕ) (inner : Readers) (below : AreSound names n inner) where
  -- ---- growing

  grown_by_reads : (least : ℕ) (o : Operand) (prefix ts : Kinds) (final : Operand) (rest : Kinds) (more : Operand → Parser Operand)
      → ((p : Operand) (all us : Kinds) → OperandReads names n all p → more p us ≡ Some (final, rest) → OperandFound names n (all ++ us) final rest)
      → OperandReads names n prefix o → (c : Continuation) → going_on n least o ts ≡ Some c → (q : Outcome (WithHeight Part)) → part names inner c (behind ts) ≡ q → grown_by names inner o ts more q ≡ Some (final, rest) → OperandFound names n (prefix ++ ts) final rest
  grown_by_reads least o prefix ts final rest more onward here c seen None none is = plain_holds (λ final rest. OperandFound names n (prefix ++ ts) final rest) is (prefix, refl, here)
  grown_by_reads least o prefix ts final rest more onward here c seen (Some q) found is =
      let g = going_on_some n least o ts c seen in
      let p = part_reads names n inner below c (behind ts) q.0.0 q.0.1 q.1 found in
      let split : prefix ++ ts ≡ (prefix ++ Mark (mark_of c) ∷ p.0) ++ q.1 = join prefix (Mark (mark_of c) ∷ p.0) q.1 refl (push p.0 q.1 (continuation_mark ts c g.0) p.1) in
      subst (λ us. OperandFound names n us final rest) (sym split) (onward (extended o q.0) (prefix ++ Mark (mark_of c) ∷ p.0) q.1 (extended_reads least c o q.0.0 q.0.1 p.0 here g.1 p.2 p.3) is)

  grown_with_reads : (least : ℕ) (o : Operand) (prefix ts : Kinds) (final : Operand) (rest : Kinds) (more : Operand → Parser Operand)
      → ((p : Operand) (all us : Kinds) → OperandReads names n all p → more p us ≡ Some (final, rest) → OperandFound names n (all ++ us) final rest)
      → OperandReads names n prefix o → (g : Option Continuation) → going_on n least o ts ≡ g → grown_with names inner o ts more g ≡ Some (final, rest) → OperandFound names n (prefix ++ ts) final rest
  grown_with_reads least o prefix ts final rest more onward here None none is = plain_holds (λ final rest. OperandFound names n (prefix ++ ts) final rest) is (prefix, refl, here)
  grown_with_reads least o prefix ts final rest more onward here (Some c) seen is = grown_by_reads least o prefix ts final rest more onward here c seen (part names inner c (behind ts)) refl is

  grow_from_reads : (least k : ℕ) (o : Operand) (prefix ts : Kinds) (final : Operand) (rest : Kinds) → OperandReads names n prefix o → grow_from names inner n least k o ts ≡ Some (final, rest) → OperandFound names n (prefix ++ ts) final rest
  unfolding grow_from
  grow_from_reads least zero o prefix ts final rest here is = plain_holds (λ final rest. OperandFound names n (prefix ++ ts) final rest) is (prefix, refl, here)
  grow_from_reads least (suc k) o prefix ts final rest here is =
      grown_with_reads least o prefix ts final rest (grow_from names inner n least k) (λ p all us reads go. grow_from_reads least k p all us final rest reads go) here (going_on n least o ts) refl is

  grow_reads : (least : ℕ) (o : Operand) (prefix ts : Kinds) (final : Operand) (rest : Kinds) → OperandReads names n prefix o → grow names inner n least o ts ≡ Some (final, rest) → OperandFound names n (prefix ++ ts) final rest
  unfolding grow
  grow_reads least o prefix ts final rest here is = grow_from_reads least (length ts) o prefix ts final rest here is

  -- ---- closing

  close_reads : (least k : ℕ) (o : Operand) (prefix ts : Kinds) (e : Expr) (h : ℕ) (rest : Kinds) → OperandReads names n prefix o → close names inner n least k o ts ≡ Some ((e, h), rest) → ReadsPrefix (ExprReads names least) (suc n) (opens k (prefix ++ ts)) e h rest
  unfolding close
  close_reads least zero o prefix ts e h rest here is = both_answer (grow names inner n least o ts) _ _ is (λ whole ks seen go.
      let g = grow_reads least o prefix ts whole ks here seen in
      tested_at (nat_le least whole.level) _ _ ks _ go
      (λ fits last. pure_answer (ExprReads names least) (suc n) (prefix ++ ts) last (g.0, g.1, g.2.low, operand_expr least whole (leb-true _ _ fits) g.2))
      (λ loose none. cc))
  close_reads least (suc k) o prefix ts e h rest here is = both_answer (grow names inner n assign_level o ts) _ _ is (λ whole ks seen go.
      let g = grow_reads assign_level o prefix ts whole ks here seen in
      mark_answer mark.RightParenthesis ks _ _ go (λ us close go.
      tested_at (nat_lt whole.pairs greatest_pairs) _ _ us _ go
      (λ few last.
      let all : Mark mark.LeftParenthesis ∷ prefix ++ ts ≡ (Mark mark.LeftParenthesis ∷ g.0 ++ Mark mark.RightParenthesis ∷ []) ++ us = push (g.0 ++ Mark mark.RightParenthesis ∷ []) us refl (join g.0 (Mark mark.RightParenthesis ∷ []) us g.1 close) in
      subst (λ vs. ReadsPrefix (ExprReads names least) (suc n) (opens k vs) e h rest) (sym all)
      (close_reads least k (bracketed whole) (Mark mark.LeftParenthesis ∷ g.0 ++ Mark mark.RightParenthesis ∷ []) us e h rest (bracketed_reads whole ((Decides-ltb whole.pairs greatest_pairs).0 few) g.2) last))
      (λ many none. cc)))

  -- ---- what it begins with

  sizeof_reads : (ts : Kinds) (o : Operand) (rest : Kinds) → sizeof names inner ts ≡ Some (o, rest) → OperandBehind names n (Word word.Sizeof) ts o rest
  unfolding sizeof
  sizeof_reads ts o rest is = tested (opens_type names ts) _ _ _ is
      (λ opens go. mark_answer mark.LeftParenthesis ts _ _ go (λ ks begin go.
      tree_answer inner.type_word below.type_word ks _ _ go (λ t ht us tts split low here go.
      mark_answer mark.RightParenthesis us _ _ go (λ vs close last.
      plain_holds (λ o rest. OperandBehind names n (Word word.Sizeof) ts o rest) last (
        wrapped 1 tts,
        push (tts ++ Mark mark.RightParenthesis ∷ []) vs begin (join tts (Mark mark.RightParenthesis ∷ []) vs split close),
        simple_operand n unary_level (1 + ht) (above_low _ n low) (ExprForm.sizeof_type _ _ _ _ t ht tts refl refl refl refl here),
      )))))
      (λ none go. tree_answer (inner.expr unary_level) (below.expr unary_level) ts _ _ go (λ a ha ks ats split low here last.
      plain_holds (λ o rest. OperandBehind names n (Word word.Sizeof) ts o rest) last (ats, split, simple_operand n unary_level (1 + ha) (above_low _ n low) (ExprForm.sizeof_expression _ _ _ _ a ha ats refl refl refl refl here))))

  cast_reads : (ts : Kinds) (o : Operand) (rest : Kinds) → cast names inner ts ≡ Some (o, rest) → OperandBehind names n (Mark mark.LeftParenthesis) ts o rest
  unfolding cast
  cast_reads ts o rest is = tree_answer inner.type_word below.type_word ts _ _ is (λ t ht ks tts split low here go.
      mark_answer mark.RightParenthesis ks _ _ go (λ us close go.
      tree_answer (inner.expr cast_level) (below.expr cast_level) us _ _ go (λ a ha vs ats cut short operand_here last.
      plain_holds (λ o rest. OperandBehind names n (Mark mark.LeftParenthesis) ts o rest) last (
        tts ++ Mark mark.RightParenthesis ∷ [] ++ ats,
        join (tts ++ Mark mark.RightParenthesis ∷ []) ats vs (join tts (Mark mark.RightParenthesis ∷ []) us split close) cut,
        simple_operand n cast_level (1 + max ht ha) (above_low _ n (max_low _ _ _ low short)) (ExprForm.cast _ _ _ _ t a ht ha tts ats refl refl refl refl here operand_here),
      ))))

  unary_reads : (op : UnaryOperator) (ts : Kinds) (o : Operand) (rest : Kinds) → unary_behind names inner op ts ≡ Some (o, rest) → OperandBehind names n (Mark (unary_mark op)) ts o rest
  unfolding unary_behind
  unary_reads op ts o rest is = tree_answer (inner.expr cast_level) (below.expr cast_level) ts _ _ is (λ a ha ks ats split low here last.
      plain_holds (λ o rest. OperandBehind names n (Mark (unary_mark op)) ts o rest) last (ats, split, simple_operand n unary_level (1 + ha) (above_low _ n low) (ExprForm.unary _ _ _ _ a op ha ats refl refl refl refl here)))

  prefix_reads : (m : MarkName) (ts : Kinds) (o : Operand) (rest : Kinds) → prefixed_by names inner m ts ≡ Some (o, rest) → OperandBehind names n (Mark m) ts o rest
  prefix_reads mark.LeftParenthesis ts o rest is = cast_reads ts o rest is
  prefix_reads mark.Increment ts o rest is = tree_answer (inner.expr unary_level) (below.expr unary_level) ts _ _ is (λ a ha ks ats split low here last.
      plain_holds (λ o rest. OperandBehind names n (Mark mark.Increment) ts o rest) last (ats, split, simple_operand n unary_level (1 + ha) (above_low _ n low) (ExprForm.pre_increment _ _ _ _ a ha ats refl refl refl refl here)))
  prefix_reads mark.Decrement ts o rest is = tree_answer (inner.expr unary_level) (below.expr unary_level) ts _ _ is (λ a ha ks ats split low here last.
      plain_holds (λ o rest. OperandBehind names n (Mark mark.Decrement) ts o rest) last (ats, split, simple_operand n unary_level (1 + ha) (above_low _ n low) (ExprForm.pre_decrement _ _ _ _ a ha ats refl refl refl refl here)))
  prefix_reads mark.Ampersand ts o rest is = unary_reads unary.Address ts o rest is
  prefix_reads mark.Star ts o rest is = unary_reads unary.Dereference ts o rest is
  prefix_reads mark.Minus ts o rest is = unary_reads unary.Negate ts o rest is
  prefix_reads mark.Tilde ts o rest is = unary_reads unary.Complement ts o rest is
  prefix_reads mark.Exclamation ts o rest is = unary_reads unary.Not ts o rest is
  prefix_reads _ ts o rest is = cc

  head_by_reads : (k : Kind) (ts : Kinds) (o : Operand) (rest : Kinds) → head_by names inner k ts ≡ Some (o, rest) → OperandBehind names n k ts o rest
  unfolding prefixed
  head_by_reads (Name x) ts o rest is = tested_at (is_type_name names x) _ _ ts _ is
      (λ known none. cc)
      (λ free last. plain_holds (λ o rest. OperandBehind names n (Name x) ts o rest) last ([], refl, simple_operand n primary_level 1 (one_low n) (ExprForm.identifier _ _ _ _ x refl refl (no_type_name_is_free names x free) refl refl)))
  head_by_reads (Number v) ts o rest is = plain_holds (λ o rest. OperandBehind names n (Number v) ts o rest) is ([], refl, simple_operand n primary_level 1 (one_low n) (ExprForm.number _ _ _ _ v refl refl refl refl))
  head_by_reads (Text bytes) ts o rest is = plain_holds (λ o rest. OperandBehind names n (Text bytes) ts o rest) is ([], refl, simple_operand n primary_level 1 (one_low n) (ExprForm.text _ _ _ _ bytes refl refl refl refl))
  head_by_reads (Word word.Sizeof) ts o rest is = sizeof_reads ts o rest is
  head_by_reads (Word w) ts o rest is = cc
  head_by_reads (Mark m) ts o rest is = prefix_reads m ts o rest is

  head_reads : (ts : Kinds) (o : Operand) (rest : Kinds) → head names inner ts ≡ Some (o, rest) → OperandFound names n ts o rest
  unfolding head
  head_reads [] o rest is = cc
  head_reads (k ∷ ks) o rest is = let b = head_by_reads k ks o rest is in (k ∷ b.0, push b.0 rest refl b.1, b.2)

  pub level_reads : (least : ℕ) → ReadsOnly (level names inner n least) (suc n) (ExprReads names least)
  unfolding level level_in
  level_reads least ts e h rest is = both_answer (head names inner (opened names ts).1) _ _ is (λ o ks seen go.
      let f = head_reads (opened names ts).1 o ks seen in
      let c = close_reads least (0 + (opened names ts).0) o f.0 ks e h rest f.2 go in
      let all : opens (0 + (opened names ts).0) (f.0 ++ ks) ≡ ts = ap (λ k. opens k (f.0 ++ ks)) (zero-add (opened names ts).0) ∙ ap (λ us. opens (opened names ts).0 us) (sym f.1) ∙ sym (opened_split names ts) in
      (c.0, sym all ∙ c.1, c.2, c.3))
