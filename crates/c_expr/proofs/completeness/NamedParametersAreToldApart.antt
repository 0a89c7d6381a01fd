-- Behind the `(` and `*` that it begins with, a declarator has a name that is no type name, and a declarator without a
-- name has none: so one run of tokens tells a named parameter from one without a name.
use Rattle.std.proofs.Common.{◌≡◌, ℕ, zero, suc, List, [], ◌∷◌, ◌++◌, refl, sym, subst, append_assoc}
use Rattle.std.specs.List.{Contains}
use Rattle.c_tokens.specs.declared.token.Kind.{Kind}
use Rattle.c_tokens.specs.declared.token.Kind.TheVariants.{Word, Name, Number, Text, Mark}
use Rattle.c_tokens.specs.declared.token.Mark.TheVariants as mark
use Rattle.c_tree.specs.declared.expression.AbstractDeclarator.{AbstractDeclarator}
use Rattle.c_tree.specs.declared.expression.Declarator.{Declarator}
use Rattle.c_tree.specs.declared.expression.Direct.{Direct}
use Rattle.c_tree.specs.declared.expression.Param.{Param}
use Rattle.c_tree.specs.declared.expression.Params.{Params}
use Rattle.c_tree.specs.declared.expression.Suffix.{Suffix}
use Rattle.c_tree.specs.Marks.{Kinds, wrapped}
use Rattle.c_tree.specs.Grammar.{IsFree, star_kinds, DeclaratorReads, DeclaratorForm, DirectReads, SuffixesRead, SuffixReads, ParamsRead, ParamListReads, ParamReads, AbstractReads, AbstractForm}
use Rattle.c_expr.specs.FirstTokens.{Begins, CanBeginSpec}
use Rattle.c_expr.specs.inner.FirstTokensLemmas.{Begins-append, Begins-same}
use Rattle.c_expr.proofs.FormsBegin.{SpecReads-begins}

-- what is left behind each `(` and `*` that comes
abbrev pub core : Kinds → Kinds
core [] = []
core (Mark mark.LeftParenthesis ∷ ks) = core ks
core (Mark mark.Star ∷ ks) = core ks
core (k ∷ ks) = k ∷ ks

-- this name, which is no type name
abbrev pub IsFreeName : List (List ℕ) → List ℕ → Kind → Type 0
IsFreeName names x k = (k ≡ Name x) × IsFree names x

-- a name only where it is a type name
abbrev pub NotFree : List (List ℕ) → Kind → Type 0
NotFree names k = (x : List ℕ) → k ≡ Name x → Contains names x

core_same : (P : Kind → Type 0) {ts us : Kinds} (rest : Kinds) → ts ≡ us → Begins P (core (us ++ rest)) → Begins P (core (ts ++ rest))
core_same P rest is h = subst (λ ks. Begins P (core (ks ++ rest))) (sym is) h

core_append : (P : Kind → Type 0) (a b rest : Kinds) → Begins P (core (a ++ (b ++ rest))) → Begins P (core ((a ++ b) ++ rest))
core_append P a b rest h = subst (λ ks. Begins P (core ks)) (sym (append_assoc a b rest)) h

pub core_stars : (P : Kind → Type 0) (stars : ℕ) (ks : Kinds) → Begins P (core ks) → Begins P (core (star_kinds stars ++ ks))
core_stars P zero ks h = h
core_stars P (suc stars) ks h = core_stars P stars ks h

pub core_wrapped : (P : Kind → Type 0) (pairs : ℕ) (ts : Kinds) → ((rest : Kinds) → Begins P (core (ts ++ rest))) → (rest : Kinds) → Begins P (core (wrapped pairs ts ++ rest))
core_wrapped P zero ts h rest = h rest
core_wrapped P (suc pairs) ts h rest = core_append P (wrapped pairs ts) (Mark mark.RightParenthesis ∷ []) rest (core_wrapped P pairs ts h (Mark mark.RightParenthesis ∷ rest))

mutual
  pub DeclaratorForm-core : {names : List (List ℕ)} {h : ℕ} {x : List ℕ} {ts : Kinds} {d : Declarator} → DeclaratorForm names h x ts d → (rest : Kinds) → Begins (IsFreeName names x) (core (ts ++ rest))
  DeclaratorForm-core {names} (DeclaratorForm.form h x ts d stars inside suffixes hd hs ds ss hi has is di direct read) rest =
      core_same _ rest is (core_append _ (star_kinds stars ++ ds) ss rest (core_append _ (star_kinds stars) ds (ss ++ rest) (core_stars _ stars (ds ++ (ss ++ rest)) (DirectReads-core direct (ss ++ rest)))))

  pub DirectReads-core : {names : List (List ℕ)} {h : ℕ} {x : List ℕ} {ts : Kinds} {d : Direct} → DirectReads names h x ts d → (rest : Kinds) → Begins (IsFreeName names x) (core (ts ++ rest))
  DirectReads-core {names} (DirectReads.name_inside h x ts d pairs hi few free is di) rest = core_same _ rest is (core_wrapped (IsFreeName names x) pairs (Name x ∷ []) (λ r. (refl, free)) rest)
  DirectReads-core {names} (DirectReads.bracketed h x ts d pairs hf inner inside hi some few is di formed) rest = core_same _ rest is (core_wrapped (IsFreeName names x) pairs inner (λ r. DeclaratorForm-core formed r) rest)

pub DeclaratorReads-core : {names : List (List ℕ)} {h : ℕ} {x : List ℕ} {ts : Kinds} {d : Declarator} → DeclaratorReads names h x ts d → (rest : Kinds) → Begins (IsFreeName names x) (core (ts ++ rest))
DeclaratorReads-core {names} (DeclaratorReads.plain h x ts d pairs hi few free is di) rest = core_same _ rest is (core_wrapped (IsFreeName names x) pairs (Name x ∷ []) (λ r. (refl, free)) rest)
DeclaratorReads-core {names} (DeclaratorReads.formed h x ts d pairs hf inner hi few is formed) rest = core_same _ rest is (core_wrapped (IsFreeName names x) pairs inner (λ r. DeclaratorForm-core formed r) rest)

spec_core : (names : List (List ℕ)) (ts rest : Kinds) → Begins (CanBeginSpec names) ts → Begins (NotFree names) (core (ts ++ rest))
spec_core names [] rest h = absurd h
spec_core names (Word w ∷ ks) rest h = λ x e. cc
spec_core names (Name y ∷ ks) rest h = λ x e. let same : y ≡ x = cc in subst (λ v. Contains names v) same h
spec_core names (Number n ∷ ks) rest h = absurd h
spec_core names (Text b ∷ ks) rest h = absurd h
spec_core names (Mark m ∷ ks) rest h = absurd h

pub ParamReads-begins : {names : List (List ℕ)} {h : ℕ} {ts : Kinds} {p : Param} → ParamReads names h ts p → Begins (CanBeginSpec names) ts
ParamReads-begins (ParamReads.named h ts p s d x hs hd ss ds hi is pi spec read) = Begins-same _ is (Begins-append _ ss ds (SpecReads-begins spec))
ParamReads-begins (ParamReads.unnamed h ts p s a hs ha ss ats hi is pi spec read) = Begins-same _ is (Begins-append _ ss ats (SpecReads-begins spec))

pub ParamListReads-begins : {names : List (List ℕ)} {h : ℕ} {ts : Kinds} {ps : List Param} → ParamListReads names h ts ps → Begins (CanBeginSpec names) ts
ParamListReads-begins (ParamListReads.one_param h ts ps p pi read) = ParamReads-begins read
ParamListReads-begins (ParamListReads.more_params h ts ps p others hp ho pts os hi is pi read rest) = Begins-same _ is (Begins-append _ pts _ (ParamReads-begins read))

params_core : {names : List (List ℕ)} {h : ℕ} {ts : Kinds} {p : Params} → ParamsRead names h ts p → (rest : Kinds) → Begins (NotFree names) (core (ts ++ Mark mark.RightParenthesis ∷ rest))
params_core (ParamsRead.nothing h ts p hi is pi) rest = core_same _ _ is (λ x e. cc)
params_core (ParamsRead.void_alone h ts p hi is pi) rest = core_same _ _ is (λ x e. cc)
params_core {names} (ParamsRead.some h ts p ps not pi read) rest = spec_core names ts _ (ParamListReads-begins read)

suffix_core : {names : List (List ℕ)} {h : ℕ} {ts : Kinds} {s : Suffix} → SuffixReads names h ts s → (rest : Kinds) → Begins (NotFree names) (core (ts ++ rest))
suffix_core (SuffixReads.unbounded h ts s hi is si) rest = core_same _ rest is (λ x e. cc)
suffix_core (SuffixReads.bounded h ts s e es is si read) rest = core_same _ rest is (λ x e. cc)
suffix_core {names} (SuffixReads.function h ts s p ps is si read) rest = core_same _ rest is (core_append (NotFree names) ps (Mark mark.RightParenthesis ∷ []) rest (params_core read rest))

suffixes_core : {names : List (List ℕ)} {h : ℕ} {ts : Kinds} {ss : List Suffix} → SuffixesRead names h ts ss → (rest : Kinds) → Begins (NotFree names) (core rest) → Begins (NotFree names) (core (ts ++ rest))
suffixes_core (SuffixesRead.no_suffix h ts ss hi is si) rest b = core_same _ rest is b
suffixes_core (SuffixesRead.more_suffixes h ts ss s others hs ho sts os hi is si read more) rest b = core_same _ rest is (core_append _ sts os rest (suffix_core read (os ++ rest)))

pub AbstractForm-core : {names : List (List ℕ)} {h stars : ℕ} {ts : Kinds} {a : AbstractDeclarator} → AbstractForm names h stars ts a → (rest : Kinds) → Begins (NotFree names) (core rest) → Begins (NotFree names) (core (ts ++ rest))
AbstractForm-core (AbstractForm.simple h stars ts a suffixes ss is ai read) rest b = core_same _ rest is (core_append _ (star_kinds stars) ss rest (core_stars _ stars (ss ++ rest) (suffixes_core read rest b)))
AbstractForm-core {names} (AbstractForm.nested h stars ts a suffixes inside inner_stars hi hs inner ss hh has some is ai formed read) rest b =
    core_same _ rest is (core_append _ (star_kinds stars ++ wrapped 1 inner) ss rest (core_append _ (star_kinds stars) (wrapped 1 inner) (ss ++ rest)
    (core_stars _ stars (wrapped 1 inner ++ (ss ++ rest)) (core_append (NotFree names) inner (Mark mark.RightParenthesis ∷ []) (ss ++ rest) (AbstractForm-core formed (Mark mark.RightParenthesis ∷ (ss ++ rest)) (λ x e. cc))))))

pub AbstractReads-core : {names : List (List ℕ)} {h : ℕ} {ts : Kinds} {a : AbstractDeclarator} → AbstractReads names h ts a → (rest : Kinds) → Begins (NotFree names) (core rest) → Begins (NotFree names) (core (ts ++ rest))
AbstractReads-core (AbstractReads.open_form h ts a stars hf hi formed) rest b = AbstractForm-core formed rest b
AbstractReads-core {names} (AbstractReads.in_parentheses h ts a stars hf inner hi some is formed) rest b =
    core_same _ rest is (core_append (NotFree names) inner (Mark mark.RightParenthesis ∷ []) rest (AbstractForm-core formed (Mark mark.RightParenthesis ∷ rest) (λ x e. cc)))

begins_apart : (names : List (List ℕ)) (x : List ℕ) (ks : Kinds) → Begins (IsFreeName names x) ks → Begins (NotFree names) ks → ⊥
begins_apart names x [] f n = f
begins_apart names x (k ∷ ks) f n = f.1 (n x f.0)

-- no text begins both with a declarator of a name and with one without, whatever that ends before
pub named_apart : {names : List (List ℕ)} {hd ha : ℕ} {x : List ℕ} {ds ats : Kinds} {d : Declarator} {a : AbstractDeclarator} (y z : Kinds) → DeclaratorReads names hd x ds d → AbstractReads names ha ats a → Begins (NotFree names) (core z) → ds ++ y ≡ ats ++ z → ⊥
named_apart {names} {x = x} {ds} y z d a ends is = begins_apart names x (core (ds ++ y)) (DeclaratorReads-core d y) (subst (λ ks. Begins (NotFree names) (core ks)) (sym is) (AbstractReads-core a z ends))
