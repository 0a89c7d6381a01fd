-- What declarators, abstract declarators and suffixes begin with, as the readers' tests see it.
use Rattle.std.proofs.Common.{◌≡◌, ℕ, zero, suc, ◌<◌, ◌≤◌, inl, inr, true, false, List, [], ◌∷◌, ◌++◌, length, refl, sym, subst, arith, append_assoc}
use Rattle.c_tokens.specs.declared.token.Kind.{Kind}
use Rattle.c_tokens.specs.declared.token.Kind.TheVariants.{Word, Name, Number, Text, Mark}
use Rattle.c_tokens.specs.declared.token.Mark.{Mark as MarkName}
use Rattle.c_tokens.specs.declared.token.Mark.TheVariants as mark
use Rattle.c_tree.specs.declared.expression.AbstractDeclarator.{AbstractDeclarator}
use Rattle.c_tree.specs.declared.expression.Declarator.{Declarator}
use Rattle.c_tree.specs.declared.expression.Direct.{Direct}
use Rattle.c_tree.specs.declared.expression.Suffix.{Suffix}
use Rattle.c_tree.specs.Marks.{Kinds, wrapped}
use Rattle.c_tree.specs.Grammar.{IsFree, star_kinds, DeclaratorReads, DeclaratorForm, DirectReads, SuffixesRead, SuffixReads, AbstractReads, AbstractForm}
use Rattle.c_readers.specs.inner.Parser.{same_mark}
use Rattle.c_readers.specs.inner.Readers.{begins_spec, looks_named}
use Rattle.c_expr.specs.Theorems.{Lacks}
use Rattle.c_expr.specs.FirstTokens.{Begins, CanBeginDeclarator}
use Rattle.c_expr.specs.inner.FirstTokensLemmas.{Begins-append, Begins-same, OpensNothing}
use Rattle.c_expr.proofs.completeness.NamedParametersAreToldApart.{core, IsFreeName, NotFree}
use Rattle.c_expr.proofs.TypeNames.{contains_type_name, free_is_no_type_name}

-- `(` or a name that is no type name
abbrev pub CanBeginDirect : List (List ℕ) → Kind → Type 0
CanBeginDirect names (Word w) = ⊥
CanBeginDirect names (Name x) = IsFree names x
CanBeginDirect names (Number n) = ⊥
CanBeginDirect names (Text bytes) = ⊥
CanBeginDirect names (Mark m) = m ≡ mark.LeftParenthesis

direct_is_declarator : (names : List (List ℕ)) (ts : Kinds) → Begins (CanBeginDirect names) ts → Begins (CanBeginDeclarator names) ts
direct_is_declarator names [] b = b
direct_is_declarator names (Word w ∷ ks) b = b
direct_is_declarator names (Name x ∷ ks) b = b
direct_is_declarator names (Number n ∷ ks) b = b
direct_is_declarator names (Text bytes ∷ ks) b = b
direct_is_declarator names (Mark m ∷ ks) b = inl b

wrapped_begins : (names : List (List ℕ)) (pairs : ℕ) (ts : Kinds) → Begins (CanBeginDeclarator names) ts → Begins (CanBeginDeclarator names) (wrapped pairs ts)
wrapped_begins names zero ts b = b
wrapped_begins names (suc pairs) ts b = inl refl

name_begins : (names : List (List ℕ)) (pairs : ℕ) (x : List ℕ) → IsFree names x → Begins (CanBeginDirect names) (wrapped pairs (Name x ∷ []))
name_begins names zero x free = free
name_begins names (suc pairs) x free = refl

pairs_begin : (names : List (List ℕ)) (pairs : ℕ) (ts : Kinds) → 1 ≤ pairs → Begins (CanBeginDirect names) (wrapped pairs ts)
pairs_begin names zero ts some = absurd (omega arith)
pairs_begin names (suc pairs) ts some = refl

stars_begin : (names : List (List ℕ)) (stars : ℕ) (ts : Kinds) → Begins (CanBeginDirect names) ts → Begins (CanBeginDeclarator names) (star_kinds stars ++ ts)
stars_begin names zero ts b = direct_is_declarator names ts b
stars_begin names (suc stars) ts b = inr refl

pub DirectReads-begins : {names : List (List ℕ)} {h : ℕ} {x : List ℕ} {ts : Kinds} {d : Direct} → DirectReads names h x ts d → Begins (CanBeginDirect names) ts
DirectReads-begins {names} (DirectReads.name_inside h x ts d pairs hi few free is di) = Begins-same _ is (name_begins names pairs x free)
DirectReads-begins {names} (DirectReads.bracketed h x ts d pairs hf inner inside hi some few is di formed) = Begins-same _ is (pairs_begin names pairs inner some)

pub DeclaratorForm-begins : {names : List (List ℕ)} {h : ℕ} {x : List ℕ} {ts : Kinds} {d : Declarator} → DeclaratorForm names h x ts d → Begins (CanBeginDeclarator names) ts
DeclaratorForm-begins {names} (DeclaratorForm.form h x ts d stars inside suffixes hd hs ds ss hi has is di direct read) =
    Begins-same _ is (Begins-append _ (star_kinds stars ++ ds) ss (stars_begin names stars ds (DirectReads-begins direct)))

pub DeclaratorReads-begins : {names : List (List ℕ)} {h : ℕ} {x : List ℕ} {ts : Kinds} {d : Declarator} → DeclaratorReads names h x ts d → Begins (CanBeginDeclarator names) ts
DeclaratorReads-begins {names} (DeclaratorReads.plain h x ts d pairs hi few free is di) = Begins-same _ is (direct_is_declarator names _ (name_begins names pairs x free))
DeclaratorReads-begins {names} (DeclaratorReads.formed h x ts d pairs hf inner hi few is formed) = Begins-same _ is (wrapped_begins names pairs inner (DeclaratorForm-begins formed))

-- ---- what the tests say of what a declarator begins with

pub declarator_some : (names : List (List ℕ)) (ts : Kinds) → Begins (CanBeginDeclarator names) ts → 0 < length ts
declarator_some names [] b = absurd b
declarator_some names (k ∷ ks) b = omega arith

pub declarator_no_spec : (names : List (List ℕ)) (ts : Kinds) → Begins (CanBeginDeclarator names) ts → begins_spec names ts ≡ false
declarator_no_spec names [] b = refl
declarator_no_spec names (Word w ∷ ks) b = absurd b
declarator_no_spec names (Name x ∷ ks) b = free_is_no_type_name names x b
declarator_no_spec names (Number n ∷ ks) b = refl
declarator_no_spec names (Text bytes ∷ ks) b = refl
declarator_no_spec names (Mark m ∷ ks) b = refl

pub closing_opens_nothing : OpensNothing mark.RightParenthesis
unfolding same_mark
closing_opens_nothing = record { parenthesis = refl; star = refl; bracket = refl }

pub direct_no_star : (names : List (List ℕ)) (ts : Kinds) → Begins (CanBeginDirect names) ts → Lacks mark.Star ts
unfolding same_mark
direct_no_star names [] b = refl
direct_no_star names (Word w ∷ ks) b = refl
direct_no_star names (Name x ∷ ks) b = refl
direct_no_star names (Number n ∷ ks) b = refl
direct_no_star names (Text bytes ∷ ks) b = refl
direct_no_star names (Mark n ∷ ks) b = rw b

-- ---- what an abstract declarator and suffixes begin with

pub lacks_same : (m : MarkName) {ts us : Kinds} (rest : Kinds) → ts ≡ us → Lacks m (us ++ rest) → Lacks m (ts ++ rest)
lacks_same m rest is l = subst (λ ks. Lacks m (ks ++ rest)) (sym is) l

pub suffix_lacks : {names : List (List ℕ)} {h : ℕ} {ts : Kinds} {s : Suffix} (m : MarkName) → same_mark mark.LeftParenthesis m ≡ false → same_mark mark.LeftBracket m ≡ false
    → SuffixReads names h ts s → (rest : Kinds) → Lacks m (ts ++ rest)
suffix_lacks m parenthesis bracket (SuffixReads.unbounded h ts s hi is si) rest = lacks_same m rest is bracket
suffix_lacks m parenthesis bracket (SuffixReads.bounded h ts s e es is si read) rest = lacks_same m rest is bracket
suffix_lacks m parenthesis bracket (SuffixReads.function h ts s p ps is si read) rest = lacks_same m rest is parenthesis

pub suffixes_lack : {names : List (List ℕ)} {h : ℕ} {ts : Kinds} {ss : List Suffix} (m : MarkName) → same_mark mark.LeftParenthesis m ≡ false → same_mark mark.LeftBracket m ≡ false
    → SuffixesRead names h ts ss → (rest : Kinds) → Lacks m rest → Lacks m (ts ++ rest)
suffixes_lack m parenthesis bracket (SuffixesRead.no_suffix h ts ss hi is si) rest l = lacks_same m rest is l
suffixes_lack m parenthesis bracket (SuffixesRead.more_suffixes h ts ss s others hs ho sts os hi is si read more) rest l =
    lacks_same m rest is (rw (append_assoc sts os rest) (suffix_lacks m parenthesis bracket read (os ++ rest)))

stars_lack : (m : MarkName) (stars : ℕ) (ts : Kinds) → same_mark mark.Star m ≡ false → Lacks m ts → Lacks m (star_kinds stars ++ ts)
stars_lack m zero ts star l = l
stars_lack m (suc stars) ts star l = star

pub AbstractForm-lacks : {names : List (List ℕ)} {h stars : ℕ} {ts : Kinds} {a : AbstractDeclarator} (m : MarkName) → OpensNothing m → AbstractForm names h stars ts a → (rest : Kinds) → Lacks m rest → Lacks m (ts ++ rest)
AbstractForm-lacks m o (AbstractForm.simple h stars ts a suffixes ss is ai read) rest l =
    lacks_same m rest is (rw (append_assoc (star_kinds stars) ss rest) (stars_lack m stars (ss ++ rest) o.star (suffixes_lack m o.parenthesis o.bracket read rest l)))
AbstractForm-lacks m o (AbstractForm.nested h stars ts a suffixes inside inner_stars hi hs inner ss hh has some is ai formed read) rest l =
    lacks_same m rest is (rw (append_assoc (star_kinds stars ++ wrapped 1 inner) ss rest, append_assoc (star_kinds stars) (wrapped 1 inner) (ss ++ rest)) (stars_lack m stars (wrapped 1 inner ++ (ss ++ rest)) o.star o.parenthesis))

pub AbstractReads-lacks : {names : List (List ℕ)} {h : ℕ} {ts : Kinds} {a : AbstractDeclarator} (m : MarkName) → OpensNothing m → AbstractReads names h ts a → (rest : Kinds) → Lacks m rest → Lacks m (ts ++ rest)
AbstractReads-lacks m o (AbstractReads.open_form h ts a stars hf hi formed) rest l = AbstractForm-lacks m o formed rest l
AbstractReads-lacks m o (AbstractReads.in_parentheses h ts a stars hf inner hi some is formed) rest l = lacks_same m rest is o.parenthesis

-- ---- the test that tells a declarator of a name from one without

pub named_looks : (names : List (List ℕ)) (x : List ℕ) (ts : Kinds) → Begins (IsFreeName names x) (core ts) → looks_named names ts ≡ true
unfolding same_mark
named_looks names x [] b = absurd b
named_looks names x (Word w ∷ ks) b = let is = b.0 in cc
named_looks names x (Name y ∷ ks) b = let same : y ≡ x = let is = b.0 in cc in rw (same, free_is_no_type_name names x b.1)
named_looks names x (Number n ∷ ks) b = let is = b.0 in cc
named_looks names x (Text bytes ∷ ks) b = let is = b.0 in cc
named_looks names x (Mark mark.LeftParenthesis ∷ ks) b = named_looks names x ks b
named_looks names x (Mark mark.Star ∷ ks) b = named_looks names x ks b
named_looks names x (Mark m ∷ ks) b = let is = b.0 in cc

pub unnamed_looks : (names : List (List ℕ)) (ts : Kinds) → Begins (NotFree names) (core ts) → looks_named names ts ≡ false
unfolding same_mark
unnamed_looks names [] b = absurd b
unnamed_looks names (Word w ∷ ks) b = refl
unnamed_looks names (Name y ∷ ks) b = rw (contains_type_name names y (b y refl))
unnamed_looks names (Number n ∷ ks) b = refl
unnamed_looks names (Text bytes ∷ ks) b = refl
unnamed_looks names (Mark mark.LeftParenthesis ∷ ks) b = unnamed_looks names ks b
unnamed_looks names (Mark mark.Star ∷ ks) b = unnamed_looks names ks b
unnamed_looks names (Mark m ∷ ks) b = refl
