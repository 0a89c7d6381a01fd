-- What the readers of declarators answer is of the grammar, if that is so below.
use Rattle.std.proofs.Common.{◌≡◌, ℕ, zero, suc, ◌+◌, ◌<◌, ◌≤◌, inl, inr, max, false, ◌&&◌, if◌then◌else◌, nat_le, nat_lt, nat_eq, List, [], ◌∷◌, ◌++◌, Some, refl, sym, ap, subst, ◌∙◌, arith}
use Rattle.std.proofs.lemmas.Bool.{false≢true, leb-true}
use Rattle.std.proofs.lemmas.Bool.Decides.{Decides-eqb, Decides-ltb}
use Rattle.c_tokens.specs.declared.token.Kind.TheVariants.{Word, Name, Number, Text, Mark}
use Rattle.c_tokens.specs.declared.token.Mark.TheVariants as mark
use Rattle.c_tree.specs.declared.expression.Direct.TheVariants as direct_as
use Rattle.c_tree.specs.declared.expression.Suffix.{Suffix}
use Rattle.c_tree.specs.Marks.{Kinds, wrapped, greatest_pairs}
use Rattle.c_tree.specs.Grammar.{IsFree, HasParts, star_kinds, DirectReads, DeclaratorReads, DeclaratorForm}
use Rattle.c_readers.specs.declared.brackets.Core.{Core}
use Rattle.c_readers.specs.declared.brackets.Core.TheVariants as core_as
use Rattle.c_readers.specs.declared.brackets.Bracketed.{Bracketed}
use Rattle.c_readers.specs.inner.Parser.{Parser, and_then, ◌>>◌, mismatch, expect, run}
use Rattle.c_readers.specs.inner.Readers.{Readers, is_type_name, free_name, suffixes, is_none, direct_of, whole_of, in_brackets, named, finished, closed, direct_behind, direct_in, direct, declarator, opened}
use Rattle.c_expr.specs.Theorems.{ReadsOnly, AreSound}
use Rattle.c_expr.proofs.TypeNames.{no_type_name_is_free}
use Rattle.c_expr.proofs.soundness.Chains.{both_true, tree_answer, pure_answer, push, run_split, opens, opened_split, max_low, zero_low, one_low, above_low}
use Rattle.c_readers.specs.inner.ParserLemmas.{both_answer, mark_answer, tested_at, plain_holds, join}
use Rattle.c_expr.proofs.soundness.AbstractDeclarators.{suffixes_read, no_suffix_no_token, no_part}

-- a name that the test admits is free, and it is the token
pub free_name_is : (names : List (List ℕ)) (ts : Kinds) (x : List ℕ) (rest : Kinds) → free_name names ts ≡ Some (x, rest) → IsFree names x × (ts ≡ Name x ∷ rest)
unfolding free_name
free_name_is names [] x rest is = cc
free_name_is names (Word w ∷ ks) x rest is = cc
free_name_is names (Number v ∷ ks) x rest is = cc
free_name_is names (Text b ∷ ks) x rest is = cc
free_name_is names (Mark m ∷ ks) x rest is = cc
free_name_is names (Name y ∷ ks) x rest is = tested_at (is_type_name names y) _ _ ks _ is
    (λ known none. cc)
    (λ free last. plain_holds (λ z us. IsFree names z × (Name y ∷ ks ≡ Name z ∷ us)) last (no_type_name_is_free names y free, refl))

-- tokens that are a core in so many parentheses, with nodes so deep
abbrev pub CoreReads : List (List ℕ) → List ℕ → Core → ℕ → ℕ → Kinds → Type 0
CoreReads names x (core_as.Name y) pairs height prefix = (y ≡ x) × IsFree names x × (height ≡ 0) × (prefix ≡ wrapped pairs (Name x ∷ []))
CoreReads names x (core_as.Form d) pairs height prefix = (hf : ℕ) × (inner : Kinds) × (height ≡ 1 + hf) × (prefix ≡ wrapped pairs inner) × DeclaratorForm names hf x inner d

pub record BracketedReads (names : List (List ℕ)) (n : ℕ) (x : List ℕ) (prefix : Kinds) (b : Bracketed) : Type 0 where
  pub few : b.pairs ≤ greatest_pairs
  pub core : CoreReads names x b.core b.pairs b.height prefix
  pub low : b.height ≤ suc n

abbrev pub DirectIs : List (List ℕ) → List ℕ → Kinds → Bracketed → Type 0
DirectIs names x prefix b = DirectReads names b.height x prefix (direct_of b.core)

-- a prefix of the tokens is so
abbrev pub DirectFound : List (List ℕ) → ℕ → Kinds → Bracketed → Kinds → Type 0
DirectFound names n ts b rest = (prefix : Kinds) × (x : List ℕ) × (ts ≡ prefix ++ rest) × DirectIs names x prefix b × BracketedReads names n x prefix b

-- a core in parentheses is a direct declarator
core_direct : {names : List (List ℕ)} {x : List ℕ} {prefix : Kinds} (core : Core) (pairs height : ℕ) → 1 ≤ pairs → pairs ≤ greatest_pairs → CoreReads names x core pairs height prefix → DirectReads names height x prefix (direct_of core)
core_direct (core_as.Name y) pairs height some few c = DirectReads.name_inside _ _ _ _ pairs c.2 few c.1 c.3 (ap (λ z. direct_as.Name z) c.0)
core_direct (core_as.Form d) pairs height some few c = DirectReads.bracketed _ _ _ _ pairs c.0 c.1 d c.2 some few c.3 refl c.4

one_more : (p : ℕ) → 1 + p ≡ suc p
one_more p = omega arith

pub wrapped_more : (pairs : ℕ) (prefix inner : Kinds) → prefix ≡ wrapped pairs inner → Mark mark.LeftParenthesis ∷ prefix ++ Mark mark.RightParenthesis ∷ [] ≡ wrapped (1 + pairs) inner
wrapped_more pairs prefix inner is = rw (one_more pairs) (ap (λ us. Mark mark.LeftParenthesis ∷ us ++ Mark mark.RightParenthesis ∷ []) is)

-- a core in one more pair
core_more : (names : List (List ℕ)) (x : List ℕ) (prefix : Kinds) (core : Core) (pairs height : ℕ) → CoreReads names x core pairs height prefix → CoreReads names x core (1 + pairs) height (Mark mark.LeftParenthesis ∷ prefix ++ Mark mark.RightParenthesis ∷ [])
core_more names x prefix (core_as.Name y) pairs height c = (c.0, c.1, c.2, wrapped_more pairs prefix _ c.3)
core_more names x prefix (core_as.Form d) pairs height c = (c.0, c.1, c.2, wrapped_more pairs prefix _ c.3, c.4)

has_parts : (stars : ℕ) (ss : List Suffix) → (nat_eq stars 0 && is_none ss) ≡ false → HasParts stars ss
has_parts zero [] is = absurd (false≢true (sym is))
has_parts (suc stars) [] is = inl (omega arith)
has_parts stars (s ∷ ss) is = inr (λ same. cc)

-- the answer is the core as it is, or it is a declarator
whole_reads : {names : List (List ℕ)} {x : List ℕ} {prefix : Kinds} (n : ℕ) (core : Core) (pairs height : ℕ) → pairs ≤ greatest_pairs → height ≤ suc n → CoreReads names x core pairs height prefix
    → DeclaratorReads names (whole_of core height).1 x prefix (whole_of core height).0 × ((whole_of core height).1 ≤ suc n)
whole_reads n (core_as.Name y) pairs height few low c = (DeclaratorReads.plain _ _ _ _ pairs refl few c.1 c.3 (ap (λ z. (whole_of (core_as.Name z) height).0) c.0), one_low n)
whole_reads n (core_as.Form d) pairs height few low c = (DeclaratorReads.formed _ _ _ _ pairs c.0 c.1 c.2 few c.3 c.4, low)

module _ (names : List (List ℕ)) (n : ℕ) (inner : Readers) (below : AreSound names n inner) where
  named_found : (ts : Kinds) (b : Bracketed) (rest : Kinds) → named names inner ts ≡ Some (b, rest) → DirectFound names n ts b rest
  unfolding named
  named_found ts b rest is = both_answer (free_name names ts) _ _ is (λ x ks here last.
      let f = free_name_is names ts x ks here in
      plain_holds (λ b rest. DirectFound names n ts b rest) last
      (Name x ∷ [], x, f.1, DirectReads.name_inside _ _ _ _ 0 refl (zero_low 8) f.0 refl refl, record { few = zero_low 8; core = (refl, f.0, refl, refl); low = zero_low (suc n) }))

  -- the stars and the suffixes round a direct declarator
  finished_reads : (stars : ℕ) (b : Bracketed) (x : List ℕ) (prefix ts : Kinds) (whole : Bracketed) (rest : Kinds) → DirectIs names x prefix b → (stars ≡ 0 → BracketedReads names n x prefix b)
      → finished names inner n stars b ts ≡ Some (whole, rest) → (all : Kinds) × (star_kinds stars ++ prefix ++ ts ≡ all ++ rest) × BracketedReads names n x all whole
  unfolding finished
  finished_reads stars b x prefix ts whole rest here alone is = tree_answer (suffixes names inner) (suffixes_read names n inner below) ts _ _ is (λ ss hs ws sts cut short parts go.
      tested_at (nat_eq stars 0 && is_none ss) _ _ ws _ go
      (λ bare last.
      let both = both_true (nat_eq stars 0) (is_none ss) bare in
      let none : stars ≡ 0 = (Decides-eqb stars 0).0 both.0 in
      let at : ts ≡ ws = subst (λ us. ts ≡ us ++ ws) (no_suffix_no_token parts (no_part ss both.1)).0 cut in
      plain_holds (λ whole rest. (all : Kinds) × (star_kinds stars ++ prefix ++ ts ≡ all ++ rest) × BracketedReads names n x all whole) last
      (prefix, ap (λ k. star_kinds k ++ prefix ++ ts) none ∙ ap (λ us. prefix ++ us) at, alone none))
      (λ some go. tested_at (nat_le b.height n) _ _ ws _ go
      (λ fits last. plain_holds (λ whole rest. (all : Kinds) × (star_kinds stars ++ prefix ++ ts ≡ all ++ rest) × BracketedReads names n x all whole) last (
        star_kinds stars ++ prefix ++ sts,
        join (star_kinds stars ++ prefix) sts ws refl cut,
        record {
          few = zero_low 8;
          core = (max b.height hs, star_kinds stars ++ prefix ++ sts, refl, refl, DeclaratorForm.form _ _ _ _ stars (direct_of b.core) ss b.height hs prefix sts refl (has_parts stars ss some) refl refl here parts);
          low = above_low _ n (max_low _ _ _ (leb-true _ _ fits) short);
        },
      ))
      (λ deep none. cc)))

  -- the same in one more pair of parentheses
  bracketed_once : (x : List ℕ) (all ts us : Kinds) (whole : Bracketed) (rest : Kinds) → ts ≡ all ++ us → us ≡ Mark mark.RightParenthesis ∷ rest → whole.pairs < greatest_pairs → BracketedReads names n x all whole
      → (prefix : Kinds) × (Mark mark.LeftParenthesis ∷ ts ≡ prefix ++ rest) × DirectIs names x prefix (in_brackets whole) × BracketedReads names n x prefix (in_brackets whole)
  bracketed_once x all ts us whole rest split close few b =
      let more = core_more names x all whole.core whole.pairs whole.height b.core in
      let fits : 1 + whole.pairs ≤ greatest_pairs = omega arith in (
        Mark mark.LeftParenthesis ∷ all ++ Mark mark.RightParenthesis ∷ [],
        push (all ++ Mark mark.RightParenthesis ∷ []) rest refl (join all (Mark mark.RightParenthesis ∷ []) rest split close),
        core_direct whole.core (1 + whole.pairs) whole.height (omega arith) fits more,
        record { few = fits; core = more; low = b.low },
      )

  close_one : {C D : Type 0} (stars : ℕ) (b : Bracketed) (x : List ℕ) (prefix ts : Kinds) (onward : Bracketed → Parser D) (q : D × Kinds) → DirectIs names x prefix b → (stars ≡ 0 → BracketedReads names n x prefix b)
      → and_then (finished names inner n stars b ts) (λ whole. expect mark.RightParenthesis >> (if nat_lt whole.pairs greatest_pairs then onward (in_brackets whole) else mismatch)) ≡ Some q
      → ((c : Bracketed) (all us : Kinds) → Mark mark.LeftParenthesis ∷ (star_kinds stars ++ prefix ++ ts) ≡ all ++ us → DirectIs names x all c → BracketedReads names n x all c → onward c us ≡ Some q → C) → C
  close_one stars b x prefix ts onward q here alone is on = both_answer (finished names inner n stars b ts) _ q is (λ whole ks seen go.
      let f = finished_reads stars b x prefix ts whole ks here alone seen in
      mark_answer mark.RightParenthesis ks _ q go (λ us close go.
      tested_at (nat_lt whole.pairs greatest_pairs) _ _ us _ go
      (λ few last. let o = bracketed_once x f.0 _ ks whole us f.1 close ((Decides-ltb whole.pairs greatest_pairs).0 few) f.2 in on (in_brackets whole) o.0 us o.1 o.2 o.3 last)
      (λ many none. cc)))

  closed_found : (k : ℕ) (b : Bracketed) (x : List ℕ) (prefix ts : Kinds) (c : Bracketed) (rest : Kinds) → DirectIs names x prefix b → BracketedReads names n x prefix b → closed names inner n k 0 b ts ≡ Some (c, rest)
      → DirectFound names n (opens k (prefix ++ ts)) c rest
  unfolding closed
  closed_found zero b x prefix ts c rest here reads is = plain_holds (λ c rest. DirectFound names n (prefix ++ ts) c rest) is (prefix, x, refl, here, reads)
  closed_found (suc k) b x prefix ts c rest here reads is = close_one 0 b x prefix ts (λ d. closed names inner n k 0 d) _ here (λ none. reads) is (λ d all us split direct whole go.
      subst (λ vs. DirectFound names n (opens k vs) c rest) (sym split) (closed_found k d x all us c rest direct whole go))

  -- a direct declarator behind so many stars: where there are none, one of the depth itself
  behind_found : (plain : Parser Bracketed) → ((ts : Kinds) (b : Bracketed) (rest : Kinds) → plain ts ≡ Some (b, rest) → DirectFound names n ts b rest) → (stars : ℕ) (ts : Kinds) (b : Bracketed) (rest : Kinds)
      → direct_behind names inner plain stars ts ≡ Some (b, rest) → (prefix : Kinds) × (x : List ℕ) × (ts ≡ prefix ++ rest) × DirectIs names x prefix b × (stars ≡ 0 → BracketedReads names n x prefix b)
  behind_found plain reads stars ts b rest is = tested_at (nat_eq stars 0) _ _ ts _ is
      (λ none go. let r = reads ts b rest go in (r.0, r.1, r.2, r.3, λ _. r.4))
      (λ some go. let r = below.direct ts b rest go in (r.0, r.2.0, r.1, r.2.1, λ none. absurd (false≢true (sym some ∙ (Decides-eqb stars 0).1 none))))

  direct_in_found : (k : ℕ) (ts : Kinds) (b : Bracketed) (rest : Kinds) → direct_in names inner n k ts ≡ Some (b, rest) → DirectFound names n (opens k ts) b rest
  unfolding direct_in closed
  direct_in_found zero ts b rest is = named_found ts b rest is
  direct_in_found (suc k) ts b rest is = both_answer (direct_behind names inner (named names inner) (run mark.Star ts).0 (run mark.Star ts).1) _ _ is (λ a ks seen go.
      let r = behind_found (named names inner) named_found _ _ a ks seen in
      close_one (run mark.Star ts).0 a r.1 r.0 ks (λ d. closed names inner n k 0 d) _ r.3 r.4 go (λ d all us split direct whole go.
      let all_is : Mark mark.LeftParenthesis ∷ ts ≡ all ++ us = ap (λ vs. Mark mark.LeftParenthesis ∷ vs) (join (star_kinds (run mark.Star ts).0) r.0 ks (run_split mark.Star ts) r.2) ∙ split in
      subst (λ vs. DirectFound names n (opens k vs) b rest) (sym all_is) (closed_found k d r.1 all us b rest direct whole go)))

  pub direct_found : (ts : Kinds) (b : Bracketed) (rest : Kinds) → direct names inner n ts ≡ Some (b, rest) → DirectFound names n ts b rest
  unfolding direct
  direct_found ts b rest is = subst (λ vs. DirectFound names n vs b rest) (sym (opened_split names ts)) (direct_in_found (opened names ts).0 (opened names ts).1 b rest is)

  pub declarator_reads : ReadsOnly (declarator names inner n) (suc n) (λ h ts d. (x : List ℕ) × DeclaratorReads names h x ts d)
  unfolding declarator
  declarator_reads ts d h rest is = both_answer (direct_behind names inner (direct names inner n) (run mark.Star ts).0 (run mark.Star ts).1) _ _ is (λ a ks seen go.
      let r = behind_found (direct names inner n) direct_found _ _ a ks seen in
      both_answer (finished names inner n (run mark.Star ts).0 a ks) _ _ go (λ whole us seen last.
      let f = finished_reads (run mark.Star ts).0 a r.1 r.0 ks whole us r.3 r.4 seen in
      let w = whole_reads n whole.core whole.pairs whole.height f.2.few f.2.low f.2.core in
      pure_answer (λ h ts d. (x : List ℕ) × DeclaratorReads names h x ts d) (suc n) ts last (f.0, join (star_kinds (run mark.Star ts).0) r.0 ks (run_split mark.Star ts) r.2 ∙ f.1, w.1, (r.1, w.0))))
