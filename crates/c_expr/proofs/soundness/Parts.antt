-- What the readers of expressions answer is of the grammar, if that is so below.
use Rattle.std.proofs.Common.{◌≡◌, ℕ, ◌+◌, max, List, [], ◌∷◌, ◌++◌, Option, Some, None, refl, sym, ap, subst, arith, append_assoc}
use Rattle.c_tokens.specs.declared.token.Kind.TheVariants.{Word, Name, Number, Text, Mark}
use Rattle.c_tokens.specs.declared.token.Mark.{Mark as MarkName}
use Rattle.c_tokens.specs.declared.token.Mark.TheVariants as mark
use Rattle.c_tree.specs.declared.expression.Expr.{Expr}
use Rattle.c_tree.specs.Marks.{Kinds, assign_mark, binary_mark, assign_level, conditional_level, binary_level}
use Rattle.c_tree.specs.Grammar.{ExprReads, ExprForm, ArgumentsRead, ArgumentListReads}
use Rattle.c_readers.specs.declared.operand.Continuation.{Continuation}
use Rattle.c_readers.specs.declared.operand.Continuation.TheVariants as goes
use Rattle.c_readers.specs.declared.operand.Part.{Part}
use Rattle.c_readers.specs.inner.Parser.{behind, separated}
use Rattle.c_readers.specs.inner.Readers.{Readers, free_name, continuation_of, continuation, whole_level, left_level, part_level, with_part, arguments, index, arms, part}
use Rattle.c_expr.specs.Theorems.{ReadsOnly, AreSound}
use Rattle.c_readers.specs.inner.ParserLemmas.{both_answer, mark_answer, eaten, join}
use Rattle.c_expr.proofs.soundness.Chains.{tree_answer, pure_answer, push, max_low, zero_low}
use Rattle.c_expr.proofs.SeparatedLists.{SeparatedRead, separated_found}
use Rattle.c_expr.proofs.soundness.Declarators.{free_name_is}

-- the mark with which it begins
abbrev pub mark_of : Continuation → MarkName
mark_of goes.Index = mark.LeftBracket
mark_of goes.Call = mark.LeftParenthesis
mark_of goes.Member = mark.Dot
mark_of goes.Arrow = mark.Arrow
mark_of goes.Increment = mark.Increment
mark_of goes.Decrement = mark.Decrement
mark_of (goes.Binary op) = binary_mark op
mark_of goes.Conditional = mark.Question
mark_of (goes.Assign op) = assign_mark op

abbrev MarkIs : Option Continuation → MarkName → Type 0
MarkIs (Some c) m = m ≡ mark_of c
MarkIs None m = Unit {0}

mark_begins : (m : MarkName) → MarkIs (continuation_of m) m
mark_begins mark.LeftBracket = refl
mark_begins _ = search

pub continuation_mark : (ts : Kinds) (c : Continuation) → continuation ts ≡ Some c → ts ≡ Mark (mark_of c) ∷ behind ts
continuation_mark [] c is = cc
continuation_mark (Word w ∷ ks) c is = cc
continuation_mark (Name x ∷ ks) c is = cc
continuation_mark (Number n ∷ ks) c is = cc
continuation_mark (Text b ∷ ks) c is = cc
continuation_mark (Mark m ∷ ks) c is = ap (λ k. Mark k ∷ ks) (subst (λ o. MarkIs o m) is (mark_begins m))

pub arguments_read : {names : List (List ℕ)} {h : ℕ} {ts : Kinds} {es : List Expr} → SeparatedRead (ExprReads names assign_level) h ts es → ArgumentListReads names h ts es
arguments_read (SeparatedRead.one_item h ts es e is here) = ArgumentListReads.one_argument _ _ _ e is here
arguments_read (SeparatedRead.more_items h ts es e others he ho ets os hi split is here behind) = ArgumentListReads.more_arguments _ _ _ e others he ho ets os hi split is here (arguments_read behind)

-- what goes on behind an operand, and makes an expression of any operand that may stand there
abbrev pub PartReads : List (List ℕ) → Continuation → ℕ → Kinds → Part → Type 0
PartReads names c h prefix p = (part_level p ≡ whole_level c) × ((a : Expr) (ha : ℕ) (ats : Kinds) → ExprReads names (left_level c) ha ats a → ExprForm names (whole_level c) (1 + max ha h) (ats ++ Mark (mark_of c) ∷ prefix) (with_part a p))

-- arguments, and the parenthesis behind them
abbrev GivenReads : List (List ℕ) → ℕ → Kinds → List Expr → Type 0
GivenReads names h ts es = (ats : Kinds) × (ts ≡ ats ++ Mark mark.RightParenthesis ∷ []) × ArgumentsRead names h ats es

low_leaf : (ha : ℕ) → 1 + max ha 0 ≡ 1 + ha
low_leaf ha = omega arith

module _ (names : List (List ℕ)) (n : ℕ) (inner : Readers) (below : AreSound names n inner) where
  arguments_reads : ReadsOnly (arguments names inner) n (GivenReads names)
  unfolding arguments
  arguments_reads ts es h rest is = eaten mark.RightParenthesis ts _ _ _ is
      (λ ks close last. pure_answer (GivenReads names) n ts last (Mark mark.RightParenthesis ∷ [], close, zero_low n, ([], refl, ArgumentsRead.no_argument _ _ _ refl refl refl)))
      (λ some go. tree_answer (separated (inner.expr assign_level)) (separated_found (ExprReads names assign_level) (inner.expr assign_level) n (below.expr assign_level)) ts _ _ go (λ es h ks ats split low here go.
      mark_answer mark.RightParenthesis ks _ _ go (λ us close last.
      pure_answer (GivenReads names) n ts last (ats ++ Mark mark.RightParenthesis ∷ [], join ats (Mark mark.RightParenthesis ∷ []) us split close, low, (ats, refl, ArgumentsRead.some_arguments _ _ _ (arguments_read here))))))

  index_reads : ReadsOnly (index names inner) n (PartReads names goes.Index)
  unfolding index
  index_reads ts p h rest is = tree_answer (inner.expr assign_level) (below.expr assign_level) ts _ _ is (λ i hi ks its split low here go.
      mark_answer mark.RightBracket ks _ _ go (λ us close last.
      pure_answer (PartReads names goes.Index) n ts last (
        its ++ Mark mark.RightBracket ∷ [],
        join its (Mark mark.RightBracket ∷ []) us split close,
        low,
        (refl, λ a ha ats left. ExprForm.index _ _ _ _ a i ha hi ats its refl refl (sym (append_assoc ats (Mark mark.LeftBracket ∷ its) (Mark mark.RightBracket ∷ []))) refl left here),
      )))

  arms_reads : ReadsOnly (arms names inner) n (PartReads names goes.Conditional)
  unfolding arms
  arms_reads ts p h rest is = tree_answer (inner.expr assign_level) (below.expr assign_level) ts _ _ is (λ b hb ks bs split low then_here go.
      mark_answer mark.Colon ks _ _ go (λ us colon go.
      tree_answer (inner.expr conditional_level) (below.expr conditional_level) us _ _ go (λ c hc vs cs cut short else_here last.
      pure_answer (PartReads names goes.Conditional) n ts last (
        bs ++ Mark mark.Colon ∷ cs,
        join bs (Mark mark.Colon ∷ cs) vs split (push cs vs colon cut),
        max_low _ _ _ low short,
        (refl, λ a ha ats left. ExprForm.conditional _ _ _ _ a b c ha hb hc ats bs cs refl refl (sym (append_assoc ats (Mark mark.Question ∷ bs) (Mark mark.Colon ∷ cs))) refl left then_here else_here),
      ))))

  pub part_reads : (c : Continuation) → ReadsOnly (part names inner c) n (PartReads names c)
  unfolding part
  part_reads goes.Index ts p h rest is = index_reads ts p h rest is
  part_reads goes.Call ts p h rest is = tree_answer (arguments names inner) arguments_reads ts _ _ is (λ es he ks prefix split low given last.
      pure_answer (PartReads names goes.Call) n ts last (
        prefix,
        split,
        low,
        (refl, λ f hf fs left. ExprForm.call _ _ _ _ f es hf he fs given.0 refl refl (ap (λ us. fs ++ Mark mark.LeftParenthesis ∷ us) given.1) refl left given.2),
      ))
  part_reads goes.Member ts p h rest is = both_answer (free_name names ts) _ _ is (λ x ks seen last. let f = free_name_is names ts x ks seen in
      pure_answer (PartReads names goes.Member) n ts last (Name x ∷ [], f.1, zero_low n, (refl, λ a ha ats left. ExprForm.member _ _ _ _ a x ha ats refl (low_leaf ha) f.0 refl refl left)))
  part_reads goes.Arrow ts p h rest is = both_answer (free_name names ts) _ _ is (λ x ks seen last. let f = free_name_is names ts x ks seen in
      pure_answer (PartReads names goes.Arrow) n ts last (Name x ∷ [], f.1, zero_low n, (refl, λ a ha ats left. ExprForm.arrow _ _ _ _ a x ha ats refl (low_leaf ha) f.0 refl refl left)))
  part_reads goes.Increment ts p h rest is = pure_answer (PartReads names goes.Increment) n ts is ([], refl, zero_low n, (refl, λ a ha ats left. ExprForm.post_increment _ _ _ _ a ha ats refl (low_leaf ha) refl refl left))
  part_reads goes.Decrement ts p h rest is = pure_answer (PartReads names goes.Decrement) n ts is ([], refl, zero_low n, (refl, λ a ha ats left. ExprForm.post_decrement _ _ _ _ a ha ats refl (low_leaf ha) refl refl left))
  part_reads (goes.Binary op) ts p h rest is = tree_answer (inner.expr (1 + binary_level op)) (below.expr (1 + binary_level op)) ts _ _ is (λ b hb ks bs split low here last.
      pure_answer (PartReads names (goes.Binary op)) n ts last (bs, split, low, (refl, λ a ha ats left. ExprForm.binary _ _ _ _ a b op ha hb ats bs refl refl refl refl left here)))
  part_reads goes.Conditional ts p h rest is = arms_reads ts p h rest is
  part_reads (goes.Assign op) ts p h rest is = tree_answer (inner.expr assign_level) (below.expr assign_level) ts _ _ is (λ b hb ks bs split low here last.
      pure_answer (PartReads names (goes.Assign op)) n ts last (bs, split, low, (refl, λ a ha ats left. ExprForm.assign _ _ _ _ a b op ha hb ats bs refl refl refl refl left here)))
