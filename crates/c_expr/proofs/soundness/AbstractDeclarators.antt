-- What the readers of suffixes and of abstract declarators answer is of the grammar, if that is so below.
use Rattle.std.proofs.Common.{◌≡◌, ◌≢◌, ℕ, zero, suc, ◌+◌, ◌<◌, ◌≤◌, ◌⊎◌, inl, inr, max, true, false, nat_le, List, [], ◌∷◌, ◌++◌, Some, refl, sym, ap, subst, ◌∙◌, arith, length, append_assoc}
use Rattle.std.proofs.Math.Nat.{max-zero}
use Rattle.std.proofs.lemmas.List.{append-nil}
use Rattle.std.proofs.lemmas.Bool.{false≢true, leb-true}
use Rattle.c_tokens.specs.declared.token.Kind.TheVariants.{Mark}
use Rattle.c_tokens.specs.declared.token.Mark.TheVariants as mark
use Rattle.c_tree.specs.declared.expression.AbstractDeclarator.{AbstractDeclarator}
use Rattle.c_tree.specs.declared.expression.Suffix.{Suffix}
use Rattle.c_tree.specs.Marks.{Kinds, wrapped, conditional_level}
use Rattle.c_tree.specs.Grammar.{star_kinds, SuffixesRead, SuffixReads, AbstractReads, AbstractForm}
use Rattle.c_readers.specs.inner.Parser.{same_mark, sees, behind, run}
use Rattle.c_readers.specs.inner.Readers.{Readers, bound, suffix, opens_suffix, suffixes_from, suffixes, opens_abstract, nested_abstract, abstract_behind, starred, is_none, bracketed_abstract, abstract}
use Rattle.c_expr.specs.Theorems.{ReadsOnly, AreSound}
use Rattle.c_expr.proofs.soundness.Chains.{both_true, tree_answer, run_some, pure_answer, pure_holds, push, run_split, max_low, zero_low, above_low}
use Rattle.c_readers.specs.inner.ParserLemmas.{both_answer, mark_answer, tested, tested_at, eaten, ReadsPrefix, join, Found, found_all, found_more}

-- ---- suffixes

module _ (names : List (List ℕ)) (n : ℕ) (inner : Readers) (below : AreSound names n inner) where
  bound_reads : ReadsOnly (bound names inner) n (λ h ts s. SuffixReads names h (Mark mark.LeftBracket ∷ ts) s)
  unfolding bound
  bound_reads ts s h rest is = eaten mark.RightBracket ts _ _ _ is
      (λ ks close last. pure_answer (λ h us s. SuffixReads names h (Mark mark.LeftBracket ∷ us) s) n ts last (Mark mark.RightBracket ∷ [], close, zero_low n, SuffixReads.unbounded _ _ _ refl refl refl))
      (λ none more. tree_answer (inner.expr conditional_level) (below.expr conditional_level) ts _ _ more (λ e he ks es split low read go.
      mark_answer mark.RightBracket ks _ _ go (λ us close last.
      pure_answer (λ h us s. SuffixReads names h (Mark mark.LeftBracket ∷ us) s) n ts last (es ++ Mark mark.RightBracket ∷ [], join es (Mark mark.RightBracket ∷ []) us split close, low, SuffixReads.bounded _ _ _ e es refl refl read))))

  pub suffix_reads : ReadsOnly (suffix names inner) n (SuffixReads names)
  unfolding suffix
  suffix_reads ts s h rest is = eaten mark.LeftBracket ts _ _ _ is
      (λ ks begin more. let b = bound_reads ks s h rest more in (Mark mark.LeftBracket ∷ b.0, push b.0 rest begin b.1, b.2, b.3))
      (λ none more. mark_answer mark.LeftParenthesis ts _ _ more (λ ks begin go.
      both_answer (inner.params ks) _ _ go (λ given us here more. mark_answer mark.RightParenthesis us _ _ more (λ vs close last.
      let p = below.params ks given.0 given.1 us (vs, close) here in
      pure_answer (SuffixReads names) n ts last (
        Mark mark.LeftParenthesis ∷ p.0 ++ Mark mark.RightParenthesis ∷ [],
        push (p.0 ++ Mark mark.RightParenthesis ∷ []) vs begin (join p.0 (Mark mark.RightParenthesis ∷ []) vs p.1 close),
        p.2,
        SuffixReads.function _ _ _ given.0 p.0 refl refl p.3,
      )))))

  suffixes_from_found : (k : ℕ) (found : List Suffix) (h : ℕ) (ts : Kinds) (all : List Suffix) (H : ℕ) (rest : Kinds) → suffixes_from names inner k found h ts ≡ Some ((all, H), rest) → Found (SuffixesRead names) n found h ts all H rest
  unfolding suffixes_from
  suffixes_from_found zero found h ts all H rest is =
      pure_holds (λ all H rest. Found (SuffixesRead names) n found h ts all H rest) is ([], 0, [], sym (append-nil found), sym (max-zero h), refl, zero_low n, SuffixesRead.no_suffix _ _ _ refl refl refl)
  suffixes_from_found (suc k) found h ts all H rest is = tested (opens_suffix names inner ts) _ _ _ is
      (λ opens go. tree_answer (suffix names inner) suffix_reads ts _ _ go (λ s hs ks prefix split low here more.
      found_more found h s hs prefix ks split low
      (λ ho os others read. SuffixesRead.more_suffixes _ _ _ s others hs ho prefix os refl refl refl here read)
      (suffixes_from_found k (found ++ s ∷ []) (max h hs) ks all H rest more)))
      (λ none last. pure_holds (λ all H rest. Found (SuffixesRead names) n found h ts all H rest) last ([], 0, [], sym (append-nil found), sym (max-zero h), refl, zero_low n, SuffixesRead.no_suffix _ _ _ refl refl refl))

  pub suffixes_read : ReadsOnly (suffixes names inner) n (SuffixesRead names)
  unfolding suffixes
  suffixes_read ts all H rest is = found_all (suffixes_from_found (length ts) [] 0 ts all H rest is)

-- ---- abstract declarators

pub no_suffix_no_token : {names : List (List ℕ)} {h : ℕ} {ts : Kinds} {ss : List Suffix} → SuffixesRead names h ts ss → ss ≡ [] → (ts ≡ []) × (h ≡ 0)
no_suffix_no_token (SuffixesRead.no_suffix h ts ss low is si) none = (is, low)
no_suffix_no_token (SuffixesRead.more_suffixes h ts ss s others hs ho sts os low is si one more) none = cc

suffix_no_star : {names : List (List ℕ)} {h : ℕ} {ts : Kinds} {s : Suffix} → SuffixReads names h ts s → (rest : Kinds) → sees mark.Star (ts ++ rest) ≡ false
unfolding same_mark
suffix_no_star (SuffixReads.unbounded h ts s low is si) rest = rw is refl
suffix_no_star (SuffixReads.bounded h ts s e es is si read) rest = rw is refl
suffix_no_star (SuffixReads.function h ts s p ps is si read) rest = rw is refl

suffixes_no_star : {names : List (List ℕ)} {h : ℕ} {ts : Kinds} {ss : List Suffix} → SuffixesRead names h ts ss → (rest : Kinds) → sees mark.Star rest ≡ false → sees mark.Star (ts ++ rest) ≡ false
suffixes_no_star (SuffixesRead.no_suffix h ts ss low is si) rest none = rw is none
suffixes_no_star (SuffixesRead.more_suffixes h ts ss s others hs ho sts os low is si one more) rest none = rw is (rw (append_assoc sts os rest) (suffix_no_star one (os ++ rest)))

-- a form whose tokens begin with a star has a star
form_star : {names : List (List ℕ)} {h stars : ℕ} {ts : Kinds} {a : AbstractDeclarator} → AbstractForm names h stars ts a → (rest : Kinds) → sees mark.Star rest ≡ false → sees mark.Star (ts ++ rest) ≡ true → 0 < stars
unfolding same_mark
form_star (AbstractForm.simple h zero ts a all ss is ai read) rest none seen = absurd (false≢true (sym (suffixes_no_star read rest none) ∙ (rw is at seen)))
form_star (AbstractForm.simple h (suc stars) ts a all ss is ai read) rest none seen = omega arith
form_star (AbstractForm.nested h zero ts a all inside inner_stars hi hs inner ss low parts some is ai form read) rest none seen = absurd (false≢true (rw is at seen))
form_star (AbstractForm.nested h (suc stars) ts a all inside inner_stars hi hs inner ss low parts some is ai form read) rest none seen = omega arith

-- so an abstract declarator that begins with one has no parentheses round it
abbrev StarForm : List (List ℕ) → ℕ → Kinds → AbstractDeclarator → Type 0
StarForm names h ts a = (stars : ℕ) × (hf : ℕ) × (0 < stars) × (h ≡ 1 + hf) × AbstractForm names hf stars ts a

abstract_star : {names : List (List ℕ)} {h : ℕ} {ts : Kinds} {a : AbstractDeclarator} → AbstractReads names h ts a → (rest : Kinds) → sees mark.Star rest ≡ false → sees mark.Star (ts ++ rest) ≡ true → StarForm names h ts a
unfolding same_mark
abstract_star (AbstractReads.open_form h ts a stars hf low form) rest none seen = (stars, hf, form_star form rest none seen, low, form)
abstract_star (AbstractReads.in_parentheses h ts a stars hf inner low some is form) rest none seen = absurd (false≢true (rw is at seen))

pub some_part : (ss : List Suffix) → is_none ss ≡ false → ss ≢ []
some_part [] is same = absurd (false≢true (sym is))
some_part (s ∷ ss) is same = cc

pub no_part : (ss : List Suffix) → is_none ss ≡ true → ss ≡ []
no_part [] is = refl
no_part (s ∷ ss) is = cc

-- what is read behind so many stars
abbrev StarredReads : List (List ℕ) → ℕ → ℕ → Kinds → AbstractDeclarator → ℕ → Kinds → Type 0
StarredReads names n stars ts a h rest = (prefix : Kinds) × (hf : ℕ) × (ts ≡ prefix ++ rest) × (h ≡ 1 + hf) × (hf ≤ n) × AbstractForm names hf stars (star_kinds stars ++ prefix) a

module _ (names : List (List ℕ)) (n : ℕ) (inner : Readers) (below : AreSound names n inner) where
  nested_abstract_reads : (stars : ℕ) (ts : Kinds) (a : AbstractDeclarator) (h : ℕ) (rest : Kinds) → 0 < stars → opens_abstract names inner ts ≡ true → nested_abstract names inner stars ts ≡ Some ((a, h), rest) → StarredReads names n stars ts a h rest
  unfolding nested_abstract same_mark
  nested_abstract_reads stars ts a h rest some seen is = mark_answer mark.LeftParenthesis ts _ _ is (λ ks begin go.
      tree_answer inner.abstract below.abstract ks _ _ go (λ inside hi us prefix split low here go.
      mark_answer mark.RightParenthesis us _ _ go (λ vs close go.
      tree_answer (suffixes names inner) (suffixes_read names n inner below) vs _ _ go (λ ss hs ws sts cut short parts last.
      let star : sees mark.Star ks ≡ true = subst (λ us. sees mark.Star (behind us) ≡ true) begin (both_true (sees mark.LeftParenthesis ts) (sees mark.Star (behind ts)) seen).1 in
      let f = abstract_star here us (rw close refl) (rw split at star) in
      pure_holds (λ a h rest. StarredReads names n stars ts a h rest) last (
        (Mark mark.LeftParenthesis ∷ prefix ++ Mark mark.RightParenthesis ∷ []) ++ sts,
        max hi hs,
        join (Mark mark.LeftParenthesis ∷ prefix ++ Mark mark.RightParenthesis ∷ []) sts ws (push (prefix ++ Mark mark.RightParenthesis ∷ []) vs begin (join prefix (Mark mark.RightParenthesis ∷ []) vs split close)) cut,
        refl,
        max_low _ _ _ low short,
        AbstractForm.nested _ stars _ _ ss inside f.0 f.1 hs prefix sts (ap (λ m. max m hs) f.3) (inl some) f.2 (sym (append_assoc (star_kinds stars) (wrapped 1 prefix) sts)) refl f.4 parts,
      )))))

  abstract_behind_reads : (stars : ℕ) (ts : Kinds) (a : AbstractDeclarator) (h : ℕ) (rest : Kinds) → (0 < stars) ⊎ (opens_abstract names inner ts ≡ false) → abstract_behind names inner stars ts ≡ Some ((a, h), rest) → StarredReads names n stars ts a h rest
  unfolding abstract_behind
  abstract_behind_reads stars ts a h rest apart is = tested (opens_abstract names inner ts) _ _ _ is
      (λ opens go. nested_abstract_reads stars ts a h rest (elim apart [ inl some ↦ some | inr none ↦ absurd (false≢true (sym none ∙ opens)) ]) opens go)
      (λ none go. tree_answer (suffixes names inner) (suffixes_read names n inner below) ts _ _ go (λ ss hs ws sts cut short parts last.
      pure_holds (λ a h rest. StarredReads names n stars ts a h rest) last (sts, hs, cut, refl, short, AbstractForm.simple _ stars _ _ ss sts refl refl parts)))

  starred_apart : (stars : ℕ) (ts us : Kinds) → ts ≡ star_kinds stars ++ us → opens_abstract names inner ts ≡ false → (0 < stars) ⊎ (opens_abstract names inner us ≡ false)
  starred_apart zero ts us is none = inr (subst (λ vs. opens_abstract names inner vs ≡ false) is none)
  starred_apart (suc stars) ts us is none = inl (omega arith)

  starred_reads : (ts : Kinds) (a : AbstractDeclarator) (h : ℕ) (rest : Kinds) → (0 < (run mark.Star ts).0) ⊎ (opens_abstract names inner ts ≡ false) → starred names inner ts ≡ Some ((a, h), rest)
      → (prefix : Kinds) × (hf : ℕ) × (ts ≡ prefix ++ rest) × (h ≡ 1 + hf) × (hf ≤ n) × AbstractForm names hf (run mark.Star ts).0 prefix a
  unfolding starred
  starred_reads ts a h rest apart is =
      let split = run_split mark.Star ts in
      let b = abstract_behind_reads (run mark.Star ts).0 (run mark.Star ts).1 a h rest (elim apart [ inl some ↦ inl some | inr none ↦ starred_apart _ ts _ split none ]) is in
      (star_kinds (run mark.Star ts).0 ++ b.0, b.1, join (star_kinds (run mark.Star ts).0) b.0 rest split b.2, b.3, b.4, b.5)

  bracketed_abstract_reads : (ts : Kinds) (a : AbstractDeclarator) (h : ℕ) (rest : Kinds) → opens_abstract names inner ts ≡ true → bracketed_abstract names inner n ts ≡ Some ((a, h), rest) → ReadsPrefix (AbstractReads names) (suc n) ts a h rest
  unfolding bracketed_abstract
  bracketed_abstract_reads ts a h rest seen is = mark_answer mark.LeftParenthesis ts _ _ is (λ ks begin go.
      both_answer (starred names inner ks) _ _ go (λ inside us here go.
      mark_answer mark.RightParenthesis us _ _ go (λ vs close go.
      tree_answer (suffixes names inner) (suffixes_read names n inner below) vs _ _ go (λ ss hs ws sts cut short parts go.
      let star : sees mark.Star ks ≡ true = subst (λ us. sees mark.Star (behind us) ≡ true) begin (both_true (sees mark.LeftParenthesis ts) (sees mark.Star (behind ts)) seen).1 in
      let some = run_some mark.Star ks star in
      let f = starred_reads ks inside.0 inside.1 us (inl some) here in
      let whole = push (f.0 ++ Mark mark.RightParenthesis ∷ []) vs begin (join f.0 (Mark mark.RightParenthesis ∷ []) vs f.2 close) in
      tested_at (is_none ss) _ _ ws _ go
      (λ none last. let empty = no_suffix_no_token parts (no_part ss none) in
      let at : vs ≡ ws = subst (λ us. vs ≡ us ++ ws) empty.0 cut in
      pure_answer (AbstractReads names) (suc n) ts last (wrapped 1 f.0, whole ∙ ap (λ us. wrapped 1 f.0 ++ us) at, rw f.3 (above_low _ n f.4), AbstractReads.in_parentheses _ _ _ (run mark.Star ks).0 f.1 f.0 f.3 some refl f.5))
      (λ some_suffix go. tested_at (nat_le inside.1 n) _ _ ws _ go
      (λ fits last. pure_answer (AbstractReads names) (suc n) ts last (
        wrapped 1 f.0 ++ sts,
        join (wrapped 1 f.0) sts ws whole cut,
        above_low _ n (max_low _ _ _ (leb-true _ _ fits) short),
        AbstractReads.open_form _ _ _ 0 (max inside.1 hs) refl (AbstractForm.nested _ 0 _ _ ss inside.0 (run mark.Star ks).0 f.1 hs f.0 sts (ap (λ m. max m hs) f.3) (inr (some_part ss some_suffix)) some refl refl f.5 parts),
      ))
      (λ deep last. cc))))))

  pub abstract_reads : ReadsOnly (abstract names inner n) (suc n) (AbstractReads names)
  unfolding abstract
  abstract_reads ts a h rest is = tested (opens_abstract names inner ts) _ _ _ is
      (λ opens go. bracketed_abstract_reads ts a h rest opens go)
      (λ none go. let f = starred_reads ts a h rest (inr none) go in (f.0, f.2, rw f.3 (above_low _ n f.4), AbstractReads.open_form _ _ _ _ f.1 f.3 f.5))
