-- The readers take abstract declarators and type words.
use Rattle.std.proofs.Common.{◌≡◌, ℕ, zero, suc, ◌+◌, ◌<◌, ◌≤◌, inl, inr, max, Bool, true, false, ◌&&◌, List, [], ◌∷◌, ◌++◌, Some, refl, sym, subst, ◌∙◌, arith, append_assoc, nat_le, le-leb}
use Rattle.c_tokens.specs.declared.token.Kind.TheVariants.{Mark}
use Rattle.c_tokens.specs.declared.token.Mark.{Mark as MarkName}
use Rattle.c_tokens.specs.declared.token.Mark.TheVariants as mark
use Rattle.c_tree.specs.declared.expression.AbstractDeclarator.{AbstractDeclarator}
use Rattle.c_tree.specs.declared.expression.Params.{Params}
use Rattle.c_tree.specs.declared.expression.Suffix.{Suffix}
use Rattle.c_tree.specs.declared.expression.TypeWord.{TypeWord}
use Rattle.c_tree.specs.Marks.{Kinds, wrapped}
use Rattle.c_tree.specs.Trees.{abstract as abstract_of}
use Rattle.c_tree.specs.Grammar.{HasParts, star_kinds, SuffixesRead, SuffixReads, ParamsRead, AbstractReads, AbstractForm, TypeWordReads}
use Rattle.c_readers.specs.inner.Parser.{same_mark, sees, behind, expect}
use Rattle.c_readers.specs.inner.Readers.{Readers, suffixes, nested_abstract, abstract_behind, starred, with_suffixes, bracketed_abstract, abstract, type_word, is_none}
use Rattle.c_expr.specs.Theorems.{Takes, Lacks, Closes, ClosesParenthesis, AreComplete}
use Rattle.c_expr.specs.FirstTokens.{CanBeginSpec}
use Rattle.c_expr.proofs.completeness.NamedParametersAreToldApart.{ParamListReads-begins}
use Rattle.c_expr.proofs.completeness.DeclaratorsBegin.{AbstractReads-lacks, suffixes_lack}
use Rattle.c_expr.specs.inner.FirstTokensLemmas.{brace_opens_nothing, spec_lacks}
use Rattle.c_expr.proofs.completeness.Suffixes.{lacks_append, suffixes_take, closes_lacks_suffix, run_stars}

-- a parenthesis and a star behind it
abbrev OpensStar : Kinds → Bool
OpensStar ts = sees mark.LeftParenthesis ts && sees mark.Star (behind ts)

pub closes_lacks : (m : MarkName) → same_mark mark.RightParenthesis m ≡ false → same_mark mark.Comma m ≡ false → (rest : Kinds) → Closes rest → Lacks m rest
closes_lacks m parenthesis comma rest (ks, inl is) = rw is parenthesis
closes_lacks m parenthesis comma rest (ks, inr is) = rw is comma

pub closes_no_brace : (rest : Kinds) → Closes rest → Lacks mark.LeftBrace rest
unfolding same_mark
closes_no_brace rest ends = closes_lacks mark.LeftBrace refl refl rest ends

closes_no_star : (rest : Kinds) → Closes rest → Lacks mark.Star rest
unfolding same_mark
closes_no_star rest ends = closes_lacks mark.Star refl refl rest ends

-- ---- which readers the first tokens choose

params_no_star : {names : List (List ℕ)} {h : ℕ} {ts : Kinds} {p : Params} → ParamsRead names h ts p → (rest : Kinds) → Lacks mark.Star (ts ++ Mark mark.RightParenthesis ∷ rest)
unfolding same_mark
params_no_star (ParamsRead.nothing h ts p hi is pi) rest = rw is
params_no_star (ParamsRead.void_alone h ts p hi is pi) rest = rw is
params_no_star {names} (ParamsRead.some h ts p ps not pi read) rest = let begins = ParamListReads-begins read in lacks_append (CanBeginSpec names) mark.Star ts _ begins (spec_lacks names mark.Star ts begins)

same_opens : {ts us : Kinds} (rest : Kinds) → ts ≡ us → OpensStar (us ++ rest) ≡ false → OpensStar (ts ++ rest) ≡ false
same_opens rest is h = subst (λ ks. OpensStar (ks ++ rest) ≡ false) (sym is) h

suffix_opens_none : {names : List (List ℕ)} {h : ℕ} {ts : Kinds} {s : Suffix} → SuffixReads names h ts s → (rest : Kinds) → OpensStar (ts ++ rest) ≡ false
unfolding same_mark
suffix_opens_none (SuffixReads.unbounded h ts s hi is si) rest = same_opens rest is refl
suffix_opens_none (SuffixReads.bounded h ts s e es is si read) rest = same_opens rest is refl
suffix_opens_none (SuffixReads.function h ts s p ps is si read) rest = same_opens rest is (rw (append_assoc ps (Mark mark.RightParenthesis ∷ []) rest) (params_no_star read rest))

suffixes_open_none : {names : List (List ℕ)} {h : ℕ} {ts : Kinds} {ss : List Suffix} → SuffixesRead names h ts ss → (rest : Kinds) → Closes rest → OpensStar (ts ++ rest) ≡ false
suffixes_open_none (SuffixesRead.no_suffix h ts ss hi is si) rest ends = same_opens rest is (rw ((closes_lacks_suffix rest ends).1))
suffixes_open_none (SuffixesRead.more_suffixes h ts ss s others hs ho sts os hi is si read more) rest ends = same_opens rest is (rw (append_assoc sts os rest) (suffix_opens_none read (os ++ rest)))

suffixes_no_star : {names : List (List ℕ)} {h : ℕ} {ts : Kinds} {ss : List Suffix} → SuffixesRead names h ts ss → (rest : Kinds) → Closes rest → Lacks mark.Star (ts ++ rest)
unfolding same_mark
suffixes_no_star read rest ends = suffixes_lack mark.Star refl refl read rest (closes_no_star rest ends)

stars_open_none : (stars : ℕ) (ts : Kinds) → OpensStar ts ≡ false → OpensStar (star_kinds stars ++ ts) ≡ false
unfolding same_mark
stars_open_none zero ts h = h
stars_open_none (suc stars) ts h = refl

form_begins_star : {names : List (List ℕ)} {h stars : ℕ} {ts : Kinds} {a : AbstractDeclarator} → AbstractForm names h stars ts a → 0 < stars → (rest : Kinds) → sees mark.Star (ts ++ rest) ≡ true
unfolding same_mark
form_begins_star (AbstractForm.simple h zero ts a suffixes ss is ai read) some rest = absurd (omega arith)
form_begins_star (AbstractForm.simple h (suc stars) ts a suffixes ss is ai read) some rest = rw is
form_begins_star (AbstractForm.nested h zero ts a suffixes inside inner_stars hi hs inner ss hh has more is ai formed read) some rest = absurd (omega arith)
form_begins_star (AbstractForm.nested h (suc stars) ts a suffixes inside inner_stars hi hs inner ss hh has more is ai formed read) some rest = rw is

pub form_opens_star : {names : List (List ℕ)} {h stars : ℕ} {ts : Kinds} {a : AbstractDeclarator} → AbstractForm names h stars ts a → 0 < stars → (rest : Kinds) → OpensStar (wrapped 1 ts ++ rest) ≡ true
unfolding same_mark
form_opens_star {ts = ts} formed some rest = rw (append_assoc ts (Mark mark.RightParenthesis ∷ []) rest) (form_begins_star formed some (Mark mark.RightParenthesis ∷ rest))

-- ---- abstract declarators

nested_takes : {names : List (List ℕ)} {n : ℕ} {r : Readers} → AreComplete names n r → {hi hs inner_stars : ℕ} {its ss : Kinds} {inside : AbstractDeclarator} {sfs : List Suffix} (stars : ℕ)
    → AbstractForm names hi inner_stars its inside → SuffixesRead names hs ss sfs
    → 1 + hi ≤ n → hs ≤ n → (rest : Kinds) → Closes rest → nested_abstract names r stars (wrapped 1 its ++ (ss ++ rest)) ≡ Some ((abstract_of stars (Some inside) sfs, 1 + max (1 + hi) hs), rest)
unfolding nested_abstract expect same_mark
nested_takes inner {hi} {hs} {inner_stars} {its} {ss} {inside} stars formed read deep_in deep rest ends =
    let taken = inner.abstract (1 + hi) its inside deep_in (AbstractReads.open_form (1 + hi) its inside inner_stars hi refl formed) (Mark mark.RightParenthesis ∷ (ss ++ rest)) (ss ++ rest, inl refl) in
    rw (append_assoc its (Mark mark.RightParenthesis ∷ []) (ss ++ rest)) (rw taken (rw (suffixes_take inner read deep rest (closes_lacks_suffix rest ends))))

starred_takes : {names : List (List ℕ)} {n : ℕ} {r : Readers} → AreComplete names n r → {h stars : ℕ} {ts : Kinds} {a : AbstractDeclarator} → AbstractForm names h stars ts a → h ≤ n → (rest : Kinds) → Closes rest
    → starred names r (ts ++ rest) ≡ Some ((a, 1 + h), rest)
unfolding starred abstract_behind same_mark
starred_takes inner (AbstractForm.simple h stars ts a sfs ss is ai read) deep rest ends =
    rw (is, ai, append_assoc (star_kinds stars) ss rest, run_stars stars (ss ++ rest) (suffixes_no_star read rest ends), suffixes_open_none read rest ends, suffixes_take inner read deep rest (closes_lacks_suffix rest ends))
starred_takes inner (AbstractForm.nested h stars ts a sfs inside inner_stars hi hs its ss hh has more is ai formed read) deep rest ends =
    rw (is, ai, append_assoc (star_kinds stars ++ wrapped 1 its) ss rest, append_assoc (star_kinds stars) (wrapped 1 its) (ss ++ rest), run_stars stars (wrapped 1 its ++ (ss ++ rest)) refl, hh)
    (rw (form_opens_star formed more (ss ++ rest)) (nested_takes inner stars formed read (omega arith) (omega arith) rest ends))

-- one in parentheses and the suffixes behind it
bracketed_takes : {names : List (List ℕ)} {n : ℕ} {r : Readers} → AreComplete names n r → {hi hs stars : ℕ} {its ss : Kinds} {inside : AbstractDeclarator} {sfs : List Suffix}
    → AbstractForm names hi stars its inside → SuffixesRead names hs ss sfs
    → hi ≤ n → hs ≤ n → (rest : Kinds) → Closes rest → bracketed_abstract names r n (wrapped 1 its ++ (ss ++ rest)) ≡ with_suffixes names r n (inside, 1 + hi) (sfs, hs) rest
unfolding bracketed_abstract expect same_mark
bracketed_takes {names} {r = r} inner {its = its} {ss} formed read deep_in deep rest ends =
    rw (append_assoc its (Mark mark.RightParenthesis ∷ []) (ss ++ rest)) (rw (starred_takes inner formed deep_in (Mark mark.RightParenthesis ∷ (ss ++ rest)) (ss ++ rest, inl refl))
    (rw (suffixes_take inner read deep rest (closes_lacks_suffix rest ends))))

pub some_suffixes : (sfs : List Suffix) → HasParts 0 sfs → is_none sfs ≡ false
some_suffixes [] (inl some) = absurd (omega arith)
some_suffixes [] (inr some) = absurd (some refl)
some_suffixes (s ∷ sfs) has = refl

plain_by : (names : List (List ℕ)) (r : Readers) (n : ℕ) (ts : Kinds) → OpensStar ts ≡ false → abstract names r n ts ≡ starred names r ts
unfolding abstract
plain_by names r n ts opens = rw opens

bracketed_by : (names : List (List ℕ)) (r : Readers) (n : ℕ) (ts : Kinds) → OpensStar ts ≡ true → abstract names r n ts ≡ bracketed_abstract names r n ts
unfolding abstract
bracketed_by names r n ts opens = rw opens

form_takes : {names : List (List ℕ)} {n : ℕ} {r : Readers} → AreComplete names n r → {h stars : ℕ} {ts : Kinds} {a : AbstractDeclarator} → AbstractForm names h stars ts a → h ≤ n → (rest : Kinds) → Closes rest
    → abstract names r n (ts ++ rest) ≡ Some ((a, 1 + h), rest)
unfolding same_mark
form_takes {names} {n} {r} inner (AbstractForm.simple h stars ts a sfs ss is ai read) deep rest ends =
    plain_by names r n (ts ++ rest) (same_opens rest is (rw (append_assoc (star_kinds stars) ss rest) (stars_open_none stars (ss ++ rest) (suffixes_open_none read rest ends))))
    ∙ starred_takes inner (AbstractForm.simple h stars ts a sfs ss is ai read) deep rest ends
form_takes {names} {n} {r} inner (AbstractForm.nested h zero ts a sfs inside inner_stars hi hs its ss hh has more is ai formed read) deep rest ends =
    let low : nat_le (1 + hi) n ≡ true = le-leb (1 + hi) n (omega arith) in
    rw (is, ai, hh, append_assoc (wrapped 1 its) ss rest) (bracketed_by names r n (wrapped 1 its ++ (ss ++ rest)) (form_opens_star formed more (ss ++ rest)) ∙ (bracketed_takes inner formed read (omega arith) (omega arith) rest ends ∙ rw (some_suffixes sfs has, low)))
form_takes {names} {n} {r} inner (AbstractForm.nested h (suc stars) ts a sfs inside inner_stars hi hs its ss hh has more is ai formed read) deep rest ends =
    plain_by names r n (ts ++ rest) (same_opens rest is refl) ∙ starred_takes inner (AbstractForm.nested h (suc stars) ts a sfs inside inner_stars hi hs its ss hh has more is ai formed read) deep rest ends

pub abstract_takes : (names : List (List ℕ)) (n : ℕ) (r : Readers) → AreComplete names n r → (h : ℕ) (ts : Kinds) (a : AbstractDeclarator) → h ≤ suc n → AbstractReads names h ts a → Takes (abstract names r n) Closes h ts a
unfolding same_mark
abstract_takes names n r inner h ts a deep (AbstractReads.open_form _ _ _ stars hf hi formed) rest ends = rw hi (form_takes inner formed (omega arith) rest ends)
abstract_takes names n r inner h ts a deep (AbstractReads.in_parentheses _ _ _ stars hf its hi some is formed) rest ends =
    rw (is, hi) (bracketed_by names r n (wrapped 1 its ++ rest) (form_opens_star formed some rest)
    ∙ bracketed_takes inner {hs = 0} {ss = []} formed (SuffixesRead.no_suffix 0 [] [] refl refl refl) (omega arith) (omega arith) rest ends)

-- ---- type words

pub type_word_takes : (names : List (List ℕ)) (n : ℕ) (r : Readers) → AreComplete names n r → (h : ℕ) (ts : Kinds) (t : TypeWord) → h ≤ suc n → TypeWordReads names h ts t → Takes (type_word names r) ClosesParenthesis h ts t
unfolding type_word
type_word_takes names n r inner h ts t deep (TypeWordReads.type_word _ _ _ s a hs ha ss ats hi is ti spec read) rest ends =
    let closes : Closes rest = (ends.0, inl ends.1) in
    let first = inner.spec false hs ss s (omega arith) spec (ats ++ rest) (AbstractReads-lacks mark.LeftBrace brace_opens_nothing read rest (closes_no_brace rest closes)) in
    rw (is, hi, ti, append_assoc ss ats rest) (rw first (rw (inner.abstract ha ats a (omega arith) read rest closes)))
