-- The readers take declarators. The parentheses that come first are opened all at once, and each closes behind what it stands round.
use Rattle.std.proofs.Common.{◌≡◌, ℕ, zero, suc, ◌+◌, ◌<◌, ◌≤◌, inl, max, true, false, ◌&&◌, not, List, [], ◌∷◌, ◌++◌, Some, refl, subst, ◌∙◌, arith, append_assoc, nat_le, nat_lt, nat_eq, le-leb, lt-ltb, zero-add}
use Rattle.std.proofs.Math.Dec.{eqb-suc-zero}
use Rattle.c_tokens.specs.declared.token.Kind.TheVariants.{Name, Mark}
use Rattle.c_tokens.specs.declared.token.Mark.TheVariants as mark
use Rattle.c_tree.specs.declared.expression.Declarator.{Declarator}
use Rattle.c_tree.specs.declared.expression.Direct.{Direct}
use Rattle.c_tree.specs.declared.expression.Direct.TheVariants as direct_as
use Rattle.c_tree.specs.declared.expression.Suffix.{Suffix}
use Rattle.c_tree.specs.Marks.{Kinds, wrapped, greatest_pairs}
use Rattle.c_tree.specs.Trees.{declarator as declarator_of}
use Rattle.c_tree.specs.Grammar.{IsFree, HasParts, star_kinds, DeclaratorReads, DeclaratorForm, DirectReads, SuffixesRead}
use Rattle.c_readers.specs.declared.brackets.Core.TheVariants as core_as
use Rattle.c_readers.specs.declared.brackets.Bracketed.{Bracketed}
use Rattle.c_readers.specs.inner.Parser.{Outcome, same_mark, expect}
use Rattle.c_readers.specs.inner.Readers.{Readers, is_none, begins_spec, opened, free_name, named, finished, closed, direct_in, direct, declarator, direct_of, whole_of, formed, in_brackets}
use Rattle.c_expr.specs.Theorems.{Takes, Lacks, Closes, LacksSuffix, AreComplete}
use Rattle.c_expr.specs.inner.FirstTokensLemmas.{Begins-append}
use Rattle.c_expr.proofs.TypeNames.{free_is_no_type_name}
use Rattle.c_expr.proofs.completeness.DeclaratorsBegin.{CanBeginDirect, DirectReads-begins, DeclaratorForm-begins, declarator_no_spec, direct_no_star}
use Rattle.c_expr.specs.FirstTokens.{CanBeginDeclarator}
use Rattle.c_expr.proofs.completeness.Suffixes.{suffixes_take, no_suffixes, closes_lacks_suffix, run_stars}
use Rattle.c_expr.proofs.completeness.TypeWords.{some_suffixes}

-- the parentheses that come, so many more being open
abbrev pub direct_from : List (List ℕ) → Readers → ℕ → ℕ → Kinds → Outcome Bracketed
direct_from names r limit k ts = direct_in names r limit (k + (opened names ts).0) (opened names ts).1

-- with any number of parentheses open, these tokens are read as this, and then what is open is closed
abbrev pub ReadAs : List (List ℕ) → Readers → ℕ → Kinds → Bracketed → Type 0
ReadAs names r limit ts b = (k : ℕ) (rest : Kinds) → direct_from names r limit k (ts ++ rest) ≡ closed names r limit k 0 b rest

parenthesis_closes : (rest : Kinds) → Closes (Mark mark.RightParenthesis ∷ rest)
parenthesis_closes rest = (rest, inl refl)

-- ---- one more pair of parentheses

-- where what stands in the parenthesis is no spec, the parenthesis is opened
opened_more : (names : List (List ℕ)) (ts : Kinds) → begins_spec names ts ≡ false → opened names (Mark mark.LeftParenthesis ∷ ts) ≡ (suc (opened names ts).0, (opened names ts).1)
unfolding same_mark
opened_more names ts not = rw not

from_more : (names : List (List ℕ)) (r : Readers) (limit k : ℕ) (ts : Kinds) → begins_spec names ts ≡ false → direct_from names r limit k (Mark mark.LeftParenthesis ∷ ts) ≡ direct_from names r limit (suc k) ts
from_more names r limit k ts not = let sum : k + suc (opened names ts).0 ≡ suc k + (opened names ts).0 = omega arith in rw (opened_more names ts not, sum)

finished_plain : (names : List (List ℕ)) (r : Readers) (limit : ℕ) (b : Bracketed) (rest : Kinds) → LacksSuffix rest → finished names r limit 0 b rest ≡ Some (b, rest)
unfolding finished
finished_plain names r limit b rest lacks = rw (no_suffixes names r rest lacks)

closed_more : (names : List (List ℕ)) (r : Readers) (limit k : ℕ) (b : Bracketed) (rest : Kinds) → b.pairs < greatest_pairs
    → closed names r limit (suc k) 0 b (Mark mark.RightParenthesis ∷ rest) ≡ closed names r limit k 0 (in_brackets b) rest
unfolding closed expect same_mark
closed_more names r limit k b rest few =
    let low : nat_lt b.pairs greatest_pairs ≡ true = lt-ltb b.pairs greatest_pairs few in
    rw (finished_plain names r limit b (Mark mark.RightParenthesis ∷ rest) (closes_lacks_suffix _ (parenthesis_closes rest)), low)

one_more : (names : List (List ℕ)) (r : Readers) (limit : ℕ) (ts : Kinds) (b : Bracketed) → ((rest : Kinds) → begins_spec names (ts ++ rest) ≡ false) → b.pairs < greatest_pairs
    → ReadAs names r limit ts b → ReadAs names r limit (wrapped 1 ts) (in_brackets b)
one_more names r limit ts b not few reads k rest =
    rw (append_assoc ts (Mark mark.RightParenthesis ∷ []) rest) (from_more names r limit k (ts ++ Mark mark.RightParenthesis ∷ rest) (not _) ∙ (reads (suc k) (Mark mark.RightParenthesis ∷ rest) ∙ closed_more names r limit k b rest few))

-- so many more pairs round it
abbrev pub more_pairs : ℕ → Bracketed → Bracketed
more_pairs zero b = b
more_pairs (suc pairs) b = in_brackets (more_pairs pairs b)

wrapped_no_spec : (names : List (List ℕ)) (pairs : ℕ) (ts : Kinds) → ((rest : Kinds) → begins_spec names (ts ++ rest) ≡ false) → (rest : Kinds) → begins_spec names (wrapped pairs ts ++ rest) ≡ false
wrapped_no_spec names zero ts not rest = not rest
wrapped_no_spec names (suc pairs) ts not rest = refl

more_count : (pairs : ℕ) (b : Bracketed) → (more_pairs pairs b).pairs ≡ pairs + b.pairs
more_count zero b = omega arith
more_count (suc pairs) b = let more = more_count pairs b in omega arith

more_read : (names : List (List ℕ)) (r : Readers) (limit pairs : ℕ) (ts : Kinds) (b : Bracketed) → ((rest : Kinds) → begins_spec names (ts ++ rest) ≡ false) → pairs + b.pairs ≤ greatest_pairs
    → ReadAs names r limit ts b → ReadAs names r limit (wrapped pairs ts) (more_pairs pairs b)
more_read names r limit zero ts b not few reads = reads
more_read names r limit (suc pairs) ts b not few reads =
    let count = more_count pairs b in one_more names r limit (wrapped pairs ts) (more_pairs pairs b) (wrapped_no_spec names pairs ts not) (omega arith) (more_read names r limit pairs ts b not (omega arith) reads)

-- ---- a name

abbrev of_name : List ℕ → Bracketed
of_name x = record { core = core_as.Name x; pairs = 0; height = 0 }

named_is : (names : List (List ℕ)) (r : Readers) (x : List ℕ) (rest : Kinds) → IsFree names x → named names r (Name x ∷ rest) ≡ Some (of_name x, rest)
unfolding named free_name
named_is names r x rest free = rw (free_is_no_type_name names x free)

name_in : (names : List (List ℕ)) (r : Readers) (limit : ℕ) (x : List ℕ) → IsFree names x → (k : ℕ) (rest : Kinds) → direct_in names r limit k (Name x ∷ rest) ≡ closed names r limit k 0 (of_name x) rest
unfolding direct_in closed
name_in names r limit x free zero rest = named_is names r x rest free
name_in names r limit x free (suc k) rest = rw (named_is names r x rest free)

name_read : (names : List (List ℕ)) (r : Readers) (limit : ℕ) (x : List ℕ) → IsFree names x → ReadAs names r limit (Name x ∷ []) (of_name x)
name_read names r limit x free k rest = let same : k + 0 ≡ k = omega arith in rw same (name_in names r limit x free k rest)

core_pairs : (pairs : ℕ) (b : Bracketed) → (more_pairs pairs b).core ≡ b.core
core_pairs zero b = refl
core_pairs (suc pairs) b = core_pairs pairs b

height_pairs : (pairs : ℕ) (b : Bracketed) → (more_pairs pairs b).height ≡ b.height
height_pairs zero b = refl
height_pairs (suc pairs) b = height_pairs pairs b

-- ---- stars and suffixes

abbrev of_form : Declarator → ℕ → Bracketed
of_form d height = record { core = core_as.Form d; pairs = 1; height = height }

no_star_and_suffix : (stars : ℕ) (sfs : List Suffix) → HasParts stars sfs → (nat_eq stars 0 && is_none sfs) ≡ false
no_star_and_suffix zero sfs has = some_suffixes sfs has
no_star_and_suffix (suc stars) sfs has = rw (eqb-suc-zero stars)

finished_form : {names : List (List ℕ)} {n : ℕ} {r : Readers} → AreComplete names n r → {hs : ℕ} {ss : Kinds} {sfs : List Suffix} (stars : ℕ) (b : Bracketed) → HasParts stars sfs → b.height ≤ n
    → hs ≤ n → SuffixesRead names hs ss sfs → (rest : Kinds) → LacksSuffix rest
    → finished names r n stars b (ss ++ rest) ≡ Some (formed stars b (sfs, hs), rest)
unfolding finished
finished_form {n = n} inner {sfs = sfs} stars b has low deep read rest lacks =
    let fits : nat_le b.height n ≡ true = le-leb b.height n low in rw (suffixes_take inner read deep rest lacks) (rw (no_star_and_suffix stars sfs has, fits))

closed_form : {names : List (List ℕ)} {n : ℕ} {r : Readers} → AreComplete names n r → {hs : ℕ} {ss : Kinds} {sfs : List Suffix} (stars hd : ℕ) (inside : Direct) (b : Bracketed)
    → direct_of b.core ≡ inside → b.height ≡ hd → HasParts stars sfs → hd ≤ n → hs ≤ n → SuffixesRead names hs ss sfs
    → (k : ℕ) (rest : Kinds) → closed names r n (suc k) stars b (ss ++ Mark mark.RightParenthesis ∷ rest) ≡ closed names r n k 0 (of_form (declarator_of stars inside sfs) (1 + max hd hs)) rest
unfolding closed expect same_mark
closed_form inner stars hd inside b core high has low deep read k rest =
    rw (finished_form inner stars b has (omega arith) deep read (Mark mark.RightParenthesis ∷ rest) (closes_lacks_suffix _ (parenthesis_closes rest))) (rw (core, high))

-- behind stars the reader of the depth below reads
behind_stars : (names : List (List ℕ)) (r : Readers) (limit k stars : ℕ) (ts after : Kinds) (b : Bracketed) → Lacks mark.Star ts → r.direct ts ≡ Some (b, after)
    → direct_from names r limit (suc k) (star_kinds (suc stars) ++ ts) ≡ closed names r limit (suc k) (suc stars) b after
unfolding direct_in same_mark
behind_stars names r limit k stars ts after b lacks is = let same : suc k + 0 ≡ suc k = omega arith in rw same (rw (run_stars stars ts lacks) (rw (eqb-suc-zero stars) (rw is)))

-- what a direct declarator is read as
abbrev pub DirectIs : List (List ℕ) → Readers → ℕ → Kinds → Direct → ℕ → Type 0
DirectIs names r limit ts d height = (b : Bracketed) × (direct_of b.core ≡ d) × (b.height ≡ height) × ReadAs names r limit ts b

form_no_spec : {names : List (List ℕ)} {h : ℕ} {x : List ℕ} {ts : Kinds} {d : Declarator} → DeclaratorForm names h x ts d → (rest : Kinds) → begins_spec names (ts ++ rest) ≡ false
form_no_spec {names} {ts = ts} formed rest = declarator_no_spec names (ts ++ rest) (Begins-append (CanBeginDeclarator names) ts rest (DeclaratorForm-begins formed))

direct_lacks_star : {names : List (List ℕ)} {h : ℕ} {x : List ℕ} {ts : Kinds} {d : Direct} → DirectReads names h x ts d → (rest : Kinds) → Lacks mark.Star (ts ++ rest)
direct_lacks_star {names} {ts = ts} read rest = direct_no_star names (ts ++ rest) (Begins-append (CanBeginDirect names) ts rest (DirectReads-begins read))

-- a form in parentheses, by what its stars and suffixes stand round
form_by : {names : List (List ℕ)} {n : ℕ} {r : Readers} → AreComplete names n r → {hd hs : ℕ} {x : List ℕ} {ds ss : Kinds} {inside : Direct} {sfs : List Suffix} (stars : ℕ) → HasParts stars sfs
    → hd ≤ n → hs ≤ n → DirectReads names hd x ds inside → SuffixesRead names hs ss sfs
    → DirectIs names r n ds inside hd → (k : ℕ) (rest : Kinds)
    → direct_from names r n (suc k) (star_kinds stars ++ (ds ++ (ss ++ Mark mark.RightParenthesis ∷ rest))) ≡ closed names r n k 0 (of_form (declarator_of stars inside sfs) (1 + max hd hs)) rest
form_by inner {hd} {ss = ss} {inside} zero has low deep direct read (b, core, high, reads) k rest =
    reads (suc k) (ss ++ Mark mark.RightParenthesis ∷ rest) ∙ closed_form inner 0 hd inside b core high has low deep read k rest
form_by {names} {n} {r} inner {hd} {x = x} {ds} {ss} {inside} (suc stars) has low deep direct read is k rest =
    let after = ss ++ Mark mark.RightParenthesis ∷ rest in
    let (b, core, high, taken) = inner.direct hd x ds inside low direct after in
    behind_stars names r n k stars (ds ++ after) after b (direct_lacks_star direct after) taken ∙ closed_form inner (suc stars) hd inside b core high has low deep read k rest

-- pairs round a pair are pairs
wrapped_in : (pairs : ℕ) (ts : Kinds) → wrapped pairs (wrapped 1 ts) ≡ wrapped (suc pairs) ts
wrapped_in zero ts = refl
wrapped_in (suc pairs) ts = rw (wrapped_in pairs ts)

-- where the parts of a form stand, with a parenthesis behind
form_place : (stars : ℕ) (ds ss rest : Kinds) → (star_kinds stars ++ ds ++ ss) ++ rest ≡ star_kinds stars ++ (ds ++ (ss ++ rest))
form_place stars ds ss rest = simp append_assoc

name_pairs : (names : List (List ℕ)) (r : Readers) (limit pairs : ℕ) (x : List ℕ) → IsFree names x → pairs ≤ greatest_pairs → DirectIs names r limit (wrapped pairs (Name x ∷ [])) (direct_as.Name x) 0
name_pairs names r limit pairs x free few =
    (more_pairs pairs (of_name x), rw (core_pairs pairs (of_name x)), height_pairs pairs (of_name x), more_read names r limit pairs (Name x ∷ []) (of_name x) (λ rest. free_is_no_type_name names x free) (omega arith) (name_read names r limit x free))

form_pairs : (names : List (List ℕ)) (r : Readers) (limit pairs : ℕ) (ts : Kinds) (d : Declarator) (h : ℕ) → ReadAs names r limit (wrapped 1 ts) (of_form d h) → 1 ≤ pairs → pairs ≤ greatest_pairs
    → DirectIs names r limit (wrapped pairs ts) (direct_as.Bracketed d) h
form_pairs names r limit zero ts d h reads some few = absurd (omega arith)
form_pairs names r limit (suc pairs) ts d h reads some few = (
  more_pairs pairs (of_form d h),
  rw (core_pairs pairs (of_form d h)),
  height_pairs pairs (of_form d h),
  subst (λ ks. ReadAs names r limit ks (more_pairs pairs (of_form d h))) (wrapped_in pairs ts)
      (more_read names r limit pairs (wrapped 1 ts) (of_form d h) (λ rest. refl) (omega arith) reads),
)

mutual
  -- a form in a parenthesis, whatever is open before it
  form_read : {names : List (List ℕ)} {n : ℕ} {r : Readers} → AreComplete names n r → {h : ℕ} {x : List ℕ} {ts : Kinds} {d : Declarator} → DeclaratorForm names h x ts d → h ≤ n → ReadAs names r n (wrapped 1 ts) (of_form d (1 + h))
  form_read {names} {n} {r} inner (DeclaratorForm.form h x ts d stars inside sfs hd hs ds ss hi has is di direct read) deep k rest =
      let by = form_by inner stars has (omega arith) (omega arith) direct read (direct_read inner direct (omega arith)) k rest in
      rw (di, hi, append_assoc ts (Mark mark.RightParenthesis ∷ []) rest) (from_more names r n k (ts ++ Mark mark.RightParenthesis ∷ rest) (form_no_spec (DeclaratorForm.form h x ts d stars inside sfs hd hs ds ss hi has is di direct read) _)
      ∙ rw (is, form_place stars ds ss (Mark mark.RightParenthesis ∷ rest)) by)

  direct_read : {names : List (List ℕ)} {n : ℕ} {r : Readers} → AreComplete names n r → {h : ℕ} {x : List ℕ} {ts : Kinds} {d : Direct} → DirectReads names h x ts d → h ≤ suc n → DirectIs names r n ts d h
  direct_read {names} {n} {r} inner (DirectReads.name_inside h x ts d pairs hi few free is di) deep = rw (is, di, hi) (name_pairs names r n pairs x free few)
  direct_read {names} {n} {r} inner (DirectReads.bracketed h x ts d pairs hf its inside hi some few is di formed) deep = rw (is, di, hi) (form_pairs names r n pairs its inside (1 + hf) (form_read inner formed (omega arith)) some few)

-- ---- with nothing open

abbrev pub DirectTakes : List (List ℕ) → Readers → ℕ → Kinds → Direct → ℕ → Type 0
DirectTakes names r limit ts d height = (rest : Kinds) → (b : Bracketed) × (direct_of b.core ≡ d) × (b.height ≡ height) × (direct names r limit (ts ++ rest) ≡ Some (b, rest))

from_none : (names : List (List ℕ)) (r : Readers) (limit : ℕ) (ts : Kinds) → direct names r limit ts ≡ direct_from names r limit 0 ts
unfolding direct
from_none names r limit ts = rw (zero-add (opened names ts).0)

direct_by : (names : List (List ℕ)) (r : Readers) (limit : ℕ) (ts : Kinds) (b : Bracketed) → ReadAs names r limit ts b → (rest : Kinds) → direct names r limit (ts ++ rest) ≡ Some (b, rest)
unfolding closed
direct_by names r limit ts b reads rest = from_none names r limit (ts ++ rest) ∙ reads 0 rest

direct_is : (names : List (List ℕ)) (r : Readers) (limit : ℕ) (ts : Kinds) (d : Direct) (h : ℕ) → DirectIs names r limit ts d h → DirectTakes names r limit ts d h
direct_is names r limit ts d h (b, core, high, reads) rest = (b, core, high, direct_by names r limit ts b reads rest)

pub direct_takes : (names : List (List ℕ)) (n : ℕ) (r : Readers) → AreComplete names n r → (h : ℕ) (x : List ℕ) (ts : Kinds) (d : Direct) → h ≤ suc n → DirectReads names h x ts d → DirectTakes names r n ts d h
direct_takes names n r inner h x ts d deep read = direct_is names r n ts d h (direct_read inner read deep)

-- with no node, only a name in parentheses stands
pub direct_takes_name : (names : List (List ℕ)) (limit : ℕ) (r : Readers) (h : ℕ) (x : List ℕ) (ts : Kinds) (d : Direct) → h ≤ 0 → DirectReads names h x ts d → DirectTakes names r limit ts d h
direct_takes_name names limit r h x ts d deep (DirectReads.name_inside _ _ _ _ pairs hi few free is di) = rw (is, di, hi) (direct_is names r limit _ _ 0 (name_pairs names r limit pairs x free few))
direct_takes_name names limit r h x ts d deep (DirectReads.bracketed _ _ _ _ pairs hf its inside hi some few is di formed) = absurd (omega arith)

-- ---- declarators

-- no star before it and no suffix behind it
declarator_direct : (names : List (List ℕ)) (r : Readers) (limit : ℕ) (ts rest : Kinds) (b : Bracketed) → Lacks mark.Star (ts ++ rest) → LacksSuffix rest → direct names r limit (ts ++ rest) ≡ Some (b, rest)
    → declarator names r limit (ts ++ rest) ≡ Some (whole_of b.core b.height, rest)
unfolding declarator
declarator_direct names r limit ts rest b no_star lacks is = rw (run_stars 0 (ts ++ rest) no_star) (rw is (rw (finished_plain names r limit b rest lacks)))

name_takes : (names : List (List ℕ)) (r : Readers) (limit pairs : ℕ) (x : List ℕ) → IsFree names x → pairs ≤ greatest_pairs → (rest : Kinds) → LacksSuffix rest
    → declarator names r limit (wrapped pairs (Name x ∷ []) ++ rest) ≡ Some ((declarator_of 0 (direct_as.Name x) [], 1), rest)
name_takes names r limit pairs x free few rest lacks =
    let read = DirectReads.name_inside 0 x (wrapped pairs (Name x ∷ [])) (direct_as.Name x) pairs refl few free refl refl in
    let b = more_pairs pairs (of_name x) in
    let reads = direct_by names r limit (wrapped pairs (Name x ∷ [])) b (more_read names r limit pairs (Name x ∷ []) (of_name x) (λ rest. free_is_no_type_name names x free) (omega arith) (name_read names r limit x free)) rest in
    declarator_direct names r limit (wrapped pairs (Name x ∷ [])) rest b (direct_lacks_star read rest) lacks reads ∙ rw (core_pairs pairs (of_name x))

form_in_pairs_takes : (names : List (List ℕ)) (r : Readers) (limit pairs : ℕ) (ts : Kinds) (d : Declarator) (h : ℕ) → ReadAs names r limit (wrapped 1 ts) (of_form d h)
    → suc pairs ≤ greatest_pairs → (rest : Kinds) → LacksSuffix rest
    → declarator names r limit (wrapped (suc pairs) ts ++ rest) ≡ Some ((d, h), rest)
unfolding same_mark
form_in_pairs_takes names r limit pairs ts d h reads few rest lacks =
    let b = more_pairs pairs (of_form d h) in
    let more = subst (λ ks. ReadAs names r limit ks b) (wrapped_in pairs ts) (more_read names r limit pairs (wrapped 1 ts) (of_form d h) (λ rest. refl) (omega arith) reads) in
    declarator_direct names r limit (wrapped (suc pairs) ts) rest b refl lacks (direct_by names r limit (wrapped (suc pairs) ts) b more rest) ∙ rw (core_pairs pairs (of_form d h), height_pairs pairs (of_form d h))

-- a form with no parentheses round it
form_takes_by : {names : List (List ℕ)} {n : ℕ} {r : Readers} → AreComplete names n r → {hd hs : ℕ} {x : List ℕ} {ds ss : Kinds} {inside : Direct} {sfs : List Suffix} (stars : ℕ)
    → HasParts stars sfs → hd ≤ n → hs ≤ n → DirectReads names hd x ds inside → SuffixesRead names hs ss sfs
    → (rest : Kinds) → LacksSuffix rest → declarator names r n (star_kinds stars ++ (ds ++ (ss ++ rest))) ≡ Some ((declarator_of stars inside sfs, 1 + max hd hs), rest)
unfolding declarator
form_takes_by {names} {n} {r} inner {hd} {x = x} {ds} {ss} {inside} zero has low deep direct read rest lacks =
    let (b, core, high, taken) = direct_takes names n r inner hd x ds inside (omega arith) direct (ss ++ rest) in
    rw (run_stars 0 (ds ++ (ss ++ rest)) (direct_lacks_star direct (ss ++ rest))) (rw taken (rw (finished_form inner 0 b has (omega arith) deep read rest lacks) (rw (core, high))))
form_takes_by {names} {n} {r} inner {hd} {x = x} {ds} {ss} {inside} (suc stars) has low deep direct read rest lacks =
    let (b, core, high, taken) = inner.direct hd x ds inside low direct (ss ++ rest) in
    rw (run_stars (suc stars) (ds ++ (ss ++ rest)) (direct_lacks_star direct (ss ++ rest))) (rw (eqb-suc-zero stars) (rw taken (rw (finished_form inner (suc stars) b has (omega arith) deep read rest lacks) (rw (core, high)))))

form_takes : {names : List (List ℕ)} {n : ℕ} {r : Readers} → AreComplete names n r → {h : ℕ} {x : List ℕ} {ts : Kinds} {d : Declarator} → DeclaratorForm names h x ts d → h ≤ n → (rest : Kinds)
    → LacksSuffix rest → declarator names r n (ts ++ rest) ≡ Some ((d, 1 + h), rest)
form_takes inner (DeclaratorForm.form h x ts d stars inside sfs hd hs ds ss hi has is di direct read) deep rest lacks =
    rw (is, di, hi, form_place stars ds ss rest) (form_takes_by inner stars has (omega arith) (omega arith) direct read rest lacks)

pub declarator_takes : (names : List (List ℕ)) (n : ℕ) (r : Readers) → AreComplete names n r → (h : ℕ) (x : List ℕ) (ts : Kinds) (d : Declarator) → h ≤ suc n → DeclaratorReads names h x ts d
    → Takes (declarator names r n) LacksSuffix h ts d
declarator_takes names n r inner h x ts d deep (DeclaratorReads.plain _ _ _ _ pairs hi few free is di) rest lacks = rw (is, di, hi) (name_takes names r n pairs x free few rest lacks)
declarator_takes names n r inner h x ts d deep (DeclaratorReads.formed _ _ _ _ zero hf its hi few is formed) rest lacks = rw (is, hi) (form_takes inner formed (omega arith) rest lacks)
declarator_takes names n r inner h x ts d deep (DeclaratorReads.formed _ _ _ _ (suc pairs) hf its hi few is formed) rest lacks =
    rw (is, hi) (form_in_pairs_takes names r n pairs its d (1 + hf) (form_read inner formed (omega arith)) few rest lacks)
