-- The readers take suffixes.
use Rattle.std.proofs.Common.{◌≡◌, ℕ, zero, suc, ◌<◌, ◌≤◌, inl, inr, max, true, ◌||◌, List, [], ◌∷◌, ◌++◌, length, Some, None, refl, ap, ◌∙◌, arith, append_assoc, append-nil, length-append}
use Rattle.c_tokens.specs.declared.token.Kind.{Kind}
use Rattle.c_tokens.specs.declared.token.Kind.TheVariants.{Mark}
use Rattle.c_tokens.specs.declared.token.Mark.{Mark as MarkName}
use Rattle.c_tokens.specs.declared.token.Mark.TheVariants as mark
use Rattle.c_tree.specs.declared.expression.Suffix.{Suffix}
use Rattle.c_tree.specs.Marks.{Kinds, conditional_level}
use Rattle.c_tree.specs.Grammar.{star_kinds, SuffixesRead, SuffixReads}
use Rattle.c_readers.specs.inner.Parser.{same_mark, sees, after, expect, run}
use Rattle.c_readers.specs.inner.Readers.{Readers, continuation, bound, suffix, suffixes, suffixes_from}
use Rattle.c_expr.specs.Theorems.{Lacks, Closes, LacksSuffix, Stops, AreComplete}
use Rattle.c_expr.specs.FirstTokens.{Begins, CanBeginExpression}
use Rattle.c_expr.proofs.FormsBegin.{ExprReads-begins}
use Rattle.c_readers.specs.inner.ParserLemmas.{found_then}
use Rattle.c_expr.specs.inner.FirstTokensLemmas.{expression_lacks}

pub no_continuation : (least : ℕ) (ts : Kinds) → continuation ts ≡ None → Stops least ts
no_continuation least ts none c is = cc

pub lacks_append : (P : Kind → Type 0) (m : MarkName) (ts rest : Kinds) → Begins P ts → Lacks m ts → Lacks m (ts ++ rest)
lacks_append P m [] rest b l = absurd b
lacks_append P m (k ∷ ks) rest b l = l

-- ---- one suffix

pub suffix_takes : {names : List (List ℕ)} {n : ℕ} {r : Readers} → AreComplete names n r → {h : ℕ} {ts : Kinds} {s : Suffix} → SuffixReads names h ts s → h ≤ n → (rest : Kinds) → suffix names r (ts ++ rest) ≡ Some ((s, h), rest)
unfolding suffix bound same_mark after expect
suffix_takes inner (SuffixReads.unbounded h ts s hi is si) deep rest = rw (is, hi, si)
suffix_takes {names} inner (SuffixReads.bounded h ts s e es is si read) deep rest =
    let starts = ExprReads-begins read in
    let lacks = lacks_append (CanBeginExpression names) mark.RightBracket es (Mark mark.RightBracket ∷ rest) starts (expression_lacks names mark.RightBracket es refl starts) in
    let taken = inner.expr conditional_level h es e (omega arith) deep read (Mark mark.RightBracket ∷ rest) (no_continuation conditional_level (Mark mark.RightBracket ∷ rest) refl) in
    rw (is, si, append_assoc es (Mark mark.RightBracket ∷ []) rest, lacks) (rw taken)
suffix_takes {names} inner (SuffixReads.function h ts s p ps is si read) deep rest =
    let taken = inner.params h ps p deep read (Mark mark.RightParenthesis ∷ rest) (rest, refl) in
    rw (is, si, append_assoc ps (Mark mark.RightParenthesis ∷ []) rest) (rw taken)

pub suffix_some : {names : List (List ℕ)} {h : ℕ} {ts : Kinds} {s : Suffix} → SuffixReads names h ts s → 0 < length ts
suffix_some (SuffixReads.unbounded h ts s hi is si) = let long = ap (λ ks. length ks) is in omega arith
suffix_some (SuffixReads.bounded h ts s e es is si read) = let long = ap (λ ks. length ks) is in omega arith
suffix_some (SuffixReads.function h ts s p ps is si read) = let long = ap (λ ks. length ks) is in omega arith

pub suffix_opens : {names : List (List ℕ)} {h : ℕ} {ts : Kinds} {s : Suffix} → SuffixReads names h ts s → (rest : Kinds) → (sees mark.LeftBracket (ts ++ rest) || sees mark.LeftParenthesis (ts ++ rest)) ≡ true
unfolding same_mark
suffix_opens (SuffixReads.unbounded h ts s hi is si) rest = rw is
suffix_opens (SuffixReads.bounded h ts s e es is si read) rest = rw is
suffix_opens (SuffixReads.function h ts s p ps is si read) rest = rw is

-- ---- suffixes one after another

suffixes_end : (names : List (List ℕ)) (r : Readers) (fuel : ℕ) (found : List Suffix) (height : ℕ) (rest : Kinds) → LacksSuffix rest → suffixes_from names r fuel found height rest ≡ Some ((found, height), rest)
unfolding suffixes_from
suffixes_end names r zero found height rest l = refl
suffixes_end names r (suc n) found height rest l = rw (l.0, l.1)

suffixes_before : (names : List (List ℕ)) (r : Readers) (n : ℕ) (found : List Suffix) (height h : ℕ) (ts rest : Kinds) (s : Suffix)
    → (sees mark.LeftBracket ts || sees mark.LeftParenthesis ts) ≡ true → suffix names r ts ≡ Some ((s, h), rest)
    → suffixes_from names r (suc n) found height ts ≡ suffixes_from names r n (found ++ s ∷ []) (max height h) rest
unfolding suffixes_from
suffixes_before names r n found height h ts rest s opens is = rw (opens, is)

suffixes_from_take : {names : List (List ℕ)} {n : ℕ} {r : Readers} → AreComplete names n r → {h : ℕ} {ts : Kinds} {ss : List Suffix} → SuffixesRead names h ts ss → h ≤ n → (rest : Kinds) → LacksSuffix rest
    → (fuel : ℕ) → length ts ≤ fuel → (found : List Suffix) (height : ℕ) → suffixes_from names r fuel found height (ts ++ rest) ≡ Some ((found ++ ss, max height h), rest)
suffixes_from_take {names} {r = r} inner (SuffixesRead.no_suffix h ts ss hi is si) deep rest lacks fuel enough found height =
    let high : max height 0 ≡ height = omega arith in rw (is, si, hi, append-nil found, high) (suffixes_end names r fuel found height rest lacks)
suffixes_from_take {names} {r = r} inner (SuffixesRead.more_suffixes h ts ss s others hs ho sts os hi is si read more) deep rest lacks zero enough found height =
    let some = suffix_some read in let long = ap (λ ks. length ks) is in let both = length-append sts os in absurd (omega arith)
suffixes_from_take {names} {r = r} inner (SuffixesRead.more_suffixes h ts ss s others hs ho sts os hi is si read more) deep rest lacks (suc k) enough found height =
    let some = suffix_some read in
    let long = ap (λ ks. length ks) is in
    let both = length-append sts os in
    rw (is, si, hi, append_assoc sts os rest) (suffixes_before names r k found height hs (sts ++ (os ++ rest)) (os ++ rest) s (suffix_opens read (os ++ rest)) (suffix_takes inner read (omega arith) (os ++ rest))
    ∙ (suffixes_from_take inner more (omega arith) rest lacks k (omega arith) (found ++ s ∷ []) (max height hs) ∙ found_then found others s height hs ho rest))

pub suffixes_take : {names : List (List ℕ)} {n : ℕ} {r : Readers} → AreComplete names n r → {h : ℕ} {ts : Kinds} {ss : List Suffix} → SuffixesRead names h ts ss → h ≤ n → (rest : Kinds) → LacksSuffix rest
    → suffixes names r (ts ++ rest) ≡ Some ((ss, h), rest)
unfolding suffixes
suffixes_take inner {h} {ts} {ss} read deep rest lacks =
    let all = suffixes_from_take inner read deep rest lacks (length (ts ++ rest)) (let l = length-append ts rest in omega arith) [] 0 in
    let high : max 0 h ≡ h = omega arith in
    all ∙ ap (λ k. Some ((ss, k), rest)) high

-- whatever the readers of the depth below are, no suffix is taken where none comes
pub no_suffixes : (names : List (List ℕ)) (r : Readers) (rest : Kinds) → LacksSuffix rest → suffixes names r rest ≡ Some (([], 0), rest)
unfolding suffixes
no_suffixes names r rest lacks = suffixes_end names r (length rest) [] 0 rest lacks

pub closes_lacks_suffix : (rest : Kinds) → Closes rest → LacksSuffix rest
unfolding same_mark
closes_lacks_suffix rest (ks, inl is) = rw is (refl, refl)
closes_lacks_suffix rest (ks, inr is) = rw is (refl, refl)

-- ---- the run of stars

pub run_stars : (stars : ℕ) (ts : Kinds) → Lacks mark.Star ts → run mark.Star (star_kinds stars ++ ts) ≡ (stars, ts)
unfolding same_mark
run_stars zero [] lacks = refl
run_stars zero (k ∷ ks) lacks = rw lacks
run_stars (suc stars) ts lacks = rw (run_stars stars ts lacks)
