-- What a part takes is a prefix of the tokens, and it makes a whole of the level of its mark.
use Rattle.std.proofs.Common.{◌≡◌, ℕ, ◌+◌, max, List, [], ◌∷◌, ◌++◌, Some, refl, sym, ap, ◌∙◌, arith, length, length-append}
use Rattle.c_tokens.specs.declared.token.Kind.TheVariants.{Word, Name, Number, Text, Mark}
use Rattle.c_tokens.specs.declared.token.Mark.TheVariants as mark
use Rattle.c_tree.specs.declared.expression.Expr.{Expr}
use Rattle.c_tree.specs.Marks.{Kinds, assign_level, conditional_level, binary_level}
use Rattle.c_readers.specs.declared.operand.Continuation.{Continuation}
use Rattle.c_readers.specs.declared.operand.Continuation.TheVariants as goes
use Rattle.c_readers.specs.declared.operand.Part.{Part}
use Rattle.c_readers.specs.declared.operand.Part.TheVariants as part_as
use Rattle.c_readers.specs.inner.Parser.{WithHeight, pure, separated}
use Rattle.c_readers.specs.inner.Readers.{Readers, whole_level, part_level, is_type_name, free_name, arguments, index, arms, part}
use Rattle.c_expr.specs.Theorems.{AreSound}
use Rattle.c_expr.proofs.completeness.Operands.{PartShrinks}
use Rattle.c_readers.specs.inner.ParserLemmas.{found_both, both_answer, mark_answer, tested_at, eaten, join}
use Rattle.c_expr.proofs.soundness.Chains.{tree_answer, pure_parts, push, stop}
use Rattle.c_expr.proofs.SeparatedLists.{separated_found}

-- the tokens begin with some, and then come these
abbrev pub EndsWith : Kinds → Kinds → Type 0
EndsWith ts rest = (prefix : Kinds) × (ts ≡ prefix ++ rest)

abbrev pub Fits : Continuation → Kinds → Part → Kinds → Type 0
Fits c ts p rest = (prefix : Kinds) × (ts ≡ prefix ++ rest) × (part_level p ≡ whole_level c)

fits_last : (c : Continuation) (prefix : Kinds) (q : WithHeight Part) (y : Part) (k : ℕ) (ts us rest : Kinds) → ts ≡ prefix ++ us → part_level q.0 ≡ whole_level c → pure q us ≡ Some ((y, k), rest) → Fits c ts y rest
fits_last c prefix q y k ts us rest split level is = let l = pure_parts q y k us rest is in (prefix, split ∙ ap (λ vs. prefix ++ vs) (sym l.2), ap part_level l.0 ∙ level)

module _ (names : List (List ℕ)) (n : ℕ) (r : Readers) (sound : AreSound names n r) where
  free_name_ends : (ts : Kinds) (x : List ℕ) (rest : Kinds) → free_name names ts ≡ Some (x, rest) → EndsWith ts rest
  unfolding free_name
  free_name_ends [] x rest is = cc
  free_name_ends (Word w ∷ ks) x rest is = cc
  free_name_ends (Number m ∷ ks) x rest is = cc
  free_name_ends (Text bytes ∷ ks) x rest is = cc
  free_name_ends (Mark m ∷ ks) x rest is = cc
  free_name_ends (Name y ∷ ks) x rest is = tested_at (is_type_name names y) _ _ ks _ is (λ known none. cc) (λ free last. (Name y ∷ [], ap (λ us. Name y ∷ us) (found_both {p = (y, ks)} {q = (x, rest)} last).1))

  arguments_end : (ts : Kinds) (es : List Expr) (h : ℕ) (rest : Kinds) → arguments names r ts ≡ Some ((es, h), rest) → EndsWith ts rest
  unfolding arguments
  arguments_end ts es h rest is = eaten mark.RightParenthesis ts _ _ _ is
      (λ ks closes last. (Mark mark.RightParenthesis ∷ [], stop closes (pure_parts _ es h ks rest last).2))
      (λ other more. tree_answer (separated (r.expr assign_level)) (separated_found _ (r.expr assign_level) n (sound.expr assign_level)) ts _ _ more (λ xs hx ks prefix split low here on.
      mark_answer mark.RightParenthesis ks _ _ on (λ ls closes last. (prefix ++ Mark mark.RightParenthesis ∷ [], join prefix (Mark mark.RightParenthesis ∷ []) rest split (stop closes (pure_parts _ es h ls rest last).2)))))

  pub part_fits : (c : Continuation) (ts : Kinds) (p : Part) (k : ℕ) (rest : Kinds) → part names r c ts ≡ Some ((p, k), rest) → Fits c ts p rest
  unfolding part index arms
  part_fits goes.Index ts p k rest is = tree_answer (r.expr assign_level) (sound.expr assign_level) ts _ _ is (λ x h ks prefix split low here more. mark_answer mark.RightBracket ks _ _ more (λ ls closes last.
      fits_last goes.Index (prefix ++ Mark mark.RightBracket ∷ []) (part_as.Index x, h) p k ts ls rest (join prefix (Mark mark.RightBracket ∷ []) ls split closes) refl last))
  part_fits goes.Call ts p k rest is = both_answer (arguments names r ts) _ _ is (λ x ks here more. let a = arguments_end ts x.0 x.1 ks here in fits_last goes.Call a.0 (part_as.Call x.0, x.1) p k ts ks rest a.1 refl more)
  part_fits goes.Member ts p k rest is = both_answer (free_name names ts) _ _ is (λ x ks here more. let a = free_name_ends ts x ks here in fits_last goes.Member a.0 (part_as.Member x, 0) p k ts ks rest a.1 refl more)
  part_fits goes.Arrow ts p k rest is = both_answer (free_name names ts) _ _ is (λ x ks here more. let a = free_name_ends ts x ks here in fits_last goes.Arrow a.0 (part_as.Arrow x, 0) p k ts ks rest a.1 refl more)
  part_fits goes.Increment ts p k rest is = fits_last goes.Increment [] (part_as.Increment, 0) p k ts ts rest refl refl is
  part_fits goes.Decrement ts p k rest is = fits_last goes.Decrement [] (part_as.Decrement, 0) p k ts ts rest refl refl is
  part_fits (goes.Binary op) ts p k rest is =
      tree_answer (r.expr (1 + binary_level op)) (sound.expr (1 + binary_level op)) ts _ _ is (λ x h ks prefix split low here more. fits_last (goes.Binary op) prefix (part_as.Binary op x, h) p k ts ks rest split refl more)
  part_fits goes.Conditional ts p k rest is = tree_answer (r.expr assign_level) (sound.expr assign_level) ts _ _ is (λ x h ks prefix split low here more. mark_answer mark.Colon ks _ _ more (λ ls colon on.
      tree_answer (r.expr conditional_level) (sound.expr conditional_level) ls _ _ on (λ y g ms middle cut deep there last.
      fits_last goes.Conditional (prefix ++ Mark mark.Colon ∷ middle) (part_as.Conditional x y, max h g) p k ts ms rest (join prefix (Mark mark.Colon ∷ middle) ms split (push middle ms colon cut)) refl last)))
  part_fits (goes.Assign op) ts p k rest is = tree_answer (r.expr assign_level) (sound.expr assign_level) ts _ _ is (λ x h ks prefix split low here more. fits_last (goes.Assign op) prefix (part_as.Assign op x, h) p k ts ks rest split refl more)

  pub part_shrinks : PartShrinks names r
  part_shrinks c ts p rest is = let a = part_fits c ts p.0 p.1 rest is in let both = ap (λ us. length us) a.1 ∙ length-append a.0 rest in omega arith
