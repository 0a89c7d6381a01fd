-- The readers take specs, struct bodies and parameters.
use Rattle.std.proofs.Common.{◌≡◌, ◌≢◌, ℕ, zero, suc, ◌+◌, ◌<◌, ◌≤◌, ◌⊎◌, inl, inr, max, Bool, true, false, ◌&&◌, List, [], ◌∷◌, ◌++◌, length, Some, refl, sym, ap, subst, ◌∙◌, arith, append_assoc, length-append, true≢false}
use Rattle.c_tokens.specs.declared.token.Keyword.TheVariants as word
use Rattle.c_tokens.specs.declared.token.Kind.{Kind}
use Rattle.c_tokens.specs.declared.token.Kind.TheVariants.{Word, Mark}
use Rattle.c_tokens.specs.declared.token.Mark.TheVariants as mark
use Rattle.c_tree.specs.declared.expression.AbstractDeclarator.{AbstractDeclarator}
use Rattle.c_tree.specs.declared.expression.Declarator.{Declarator}
use Rattle.c_tree.specs.declared.expression.MemberDecl.{MemberDecl, roll-MemberDecl}
use Rattle.c_tree.specs.declared.expression.Param.{Param}
use Rattle.c_tree.specs.declared.expression.Params.{Params}
use Rattle.c_tree.specs.declared.expression.Spec.{Spec}
use Rattle.c_tree.specs.Marks.{Kinds}
use Rattle.c_tree.specs.Grammar.{SpecReads, MembersRead, DeclaratorsRead, DeclaratorReads, AbstractReads, ParamsRead, ParamListReads, ParamReads}
use Rattle.c_readers.specs.inner.Parser.{Parser, WithHeight, Outcome, same_mark, same_word, sees, after, expect}
use Rattle.c_readers.specs.inner.Readers.{Readers, free_name, member, members, members_from, struct_body, struct, spec, param, params, is_void_alone}
use Rattle.c_expr.specs.Theorems.{Takes, Lacks, Closes, ClosesParenthesis, LacksSuffix, AreComplete}
use Rattle.c_expr.specs.FirstTokens.{Begins, CanBeginSpec, CanBeginDeclarator}
use Rattle.c_expr.specs.inner.FirstTokensLemmas.{Begins-append, Begins-same, declarator_lacks, brace_opens_nothing, spec_lacks}
use Rattle.c_expr.proofs.FormsBegin.{SpecReads-begins}
use Rattle.c_expr.proofs.completeness.NamedParametersAreToldApart.{core, NotFree, DeclaratorReads-core, AbstractReads-core, ParamReads-begins, ParamListReads-begins}
use Rattle.c_expr.proofs.TypeNames.{contains_type_name, free_is_no_type_name}
use Rattle.c_expr.proofs.SeparatedLists.{SeparatedRead, TakesItems, separated_takes}
use Rattle.c_expr.proofs.completeness.DeclaratorsBegin.{DeclaratorReads-begins, AbstractReads-lacks, declarator_some, closing_opens_nothing, named_looks, unnamed_looks}
use Rattle.c_expr.proofs.completeness.Suffixes.{lacks_append, closes_lacks_suffix}
use Rattle.c_expr.proofs.completeness.TypeWords.{closes_no_brace}

-- ---- the members of a struct's body

abbrev pub DeclaratorOf : List (List ℕ) → ℕ → Kinds → Declarator → Type 0
DeclaratorOf names h ts d = (x : List ℕ) × DeclaratorReads names h x ts d

pub declarators_separated : {names : List (List ℕ)} {h : ℕ} {xs : List (List ℕ)} {ts : Kinds} {ds : List Declarator} → DeclaratorsRead names h xs ts ds → SeparatedRead (DeclaratorOf names) h ts ds
declarators_separated (DeclaratorsRead.one_declarator h xs ts ds d x xi di read) = SeparatedRead.one_item h ts ds d di (x, read)
declarators_separated (DeclaratorsRead.more_declarators h xs ts ds d x others ys hd ho dts os hi xi is di read more) = SeparatedRead.more_items h ts ds d others hd ho dts os hi is di (x, read) (declarators_separated more)

pub DeclaratorsRead-begins : {names : List (List ℕ)} {h : ℕ} {xs : List (List ℕ)} {ts : Kinds} {ds : List Declarator} → DeclaratorsRead names h xs ts ds → Begins (CanBeginDeclarator names) ts
DeclaratorsRead-begins (DeclaratorsRead.one_declarator h xs ts ds d x xi di read) = DeclaratorReads-begins read
DeclaratorsRead-begins (DeclaratorsRead.more_declarators h xs ts ds d x others ys hd ho dts os hi xi is di read more) = Begins-same _ is (Begins-append _ dts _ (DeclaratorReads-begins read))

comma_lacks_suffix : (ks : Kinds) → LacksSuffix (Mark mark.Comma ∷ ks)
unfolding same_mark
comma_lacks_suffix ks = (refl, refl)

pub declarator_items : {names : List (List ℕ)} {n : ℕ} {r : Readers} → AreComplete names n r → TakesItems (DeclaratorOf names) r.declarator LacksSuffix n
declarator_items {names} inner = record {
  takes = λ h ts d deep read. inner.declarator h read.0 ts d deep read.1;
  some = λ h ts d read. declarator_some names ts (DeclaratorReads-begins read.1);
  comma = comma_lacks_suffix;
}

member_takes : {names : List (List ℕ)} {n : ℕ} {r : Readers} → AreComplete names n r → {hs hd : ℕ} {ss dts : Kinds} {s : Spec} {xs : List (List ℕ)} {ds : List Declarator}
    → SpecReads names true hs ss s → DeclaratorsRead names hd xs dts ds → hs ≤ n → hd ≤ n
    → (rest : Kinds) → member names r (ss ++ (dts ++ Mark mark.Semicolon ∷ rest)) ≡ Some ((roll-MemberDecl (record { spec = s; declarators = ds }), max hs hd), rest)
unfolding member expect same_mark
member_takes {names} inner {hs} {hd} {ss} {dts} {s} first second low_spec low rest =
    let begins = DeclaratorsRead-begins second in
    let behind = dts ++ Mark mark.Semicolon ∷ rest in
    let no_brace = lacks_append (CanBeginDeclarator names) mark.LeftBrace dts (Mark mark.Semicolon ∷ rest) begins (declarator_lacks names mark.LeftBrace dts brace_opens_nothing begins) in
    rw (inner.spec true hs ss s low_spec first behind no_brace) (rw (separated_takes (declarator_items inner) (declarators_separated second) low (Mark mark.Semicolon ∷ rest) (refl, refl) refl))

begins_some : (P : Kind → Type 0) (ts : Kinds) → Begins P ts → 0 < length ts
begins_some P [] b = absurd b
begins_some P (k ∷ ks) b = omega arith

-- the last member, or one before others
members_last : (names : List (List ℕ)) (r : Readers) (fuel : ℕ) (found : List MemberDecl) (height h : ℕ) (ts rest : Kinds) (m : MemberDecl) → 0 < fuel → member names r ts ≡ Some ((m, h), Mark mark.RightBrace ∷ rest)
    → members_from names r fuel found height ts ≡ Some ((found ++ m ∷ [], max height h), rest)
unfolding members_from after same_mark
members_last names r zero found height h ts rest m some is = absurd (omega arith)
members_last names r (suc k) found height h ts rest m some is = rw is

members_before : (names : List (List ℕ)) (r : Readers) (k : ℕ) (found : List MemberDecl) (height h : ℕ) (ts rest : Kinds) (m : MemberDecl) → Lacks mark.RightBrace rest → member names r ts ≡ Some ((m, h), rest)
    → members_from names r (suc k) found height ts ≡ members_from names r k (found ++ m ∷ []) (max height h) rest
unfolding members_from after
members_before names r k found height h ts rest m lacks is = rw is (rw lacks)

MembersRead-begins : {names : List (List ℕ)} {h : ℕ} {ts : Kinds} {ms : List MemberDecl} → MembersRead names h ts ms → ((h ≡ 0) × (ts ≡ []) × (ms ≡ [])) ⊎ (Begins (CanBeginSpec names) ts × (ms ≢ []))
MembersRead-begins (MembersRead.no_member h ts ms hi is mi) = inl (hi, is, mi)
MembersRead-begins (MembersRead.more_members h ts ms s xs ds others hs hd ho ss dts os hi is mi first second more) = inr (Begins-same _ is (Begins-append _ (ss ++ dts) _ (Begins-append _ ss _ (SpecReads-begins first))), λ none. cc)

-- what was found before, and the greatest height of all
members_found : (found others : List MemberDecl) (m : MemberDecl) (a b c d : ℕ) (rest : Kinds)
    → ◌≡◌ {A = Outcome (WithHeight (List MemberDecl))} (Some (((found ++ m ∷ []) ++ others, max (max a (max b c)) d), rest)) (Some ((found ++ (m ∷ others), max a (max b (max c d))), rest))
members_found found others m a b c d rest = let high : max (max a (max b c)) d ≡ max a (max b (max c d)) = omega arith in rw (append_assoc found (m ∷ []) others, high)

members_end : (names : List (List ℕ)) (r : Readers) (fuel : ℕ) (found others : List MemberDecl) (height hs hd ho : ℕ) (ts os rest : Kinds) (m : MemberDecl) → 0 < fuel → ho ≡ 0 → os ≡ [] → others ≡ []
    → member names r ts ≡ Some ((m, max hs hd), os ++ Mark mark.RightBrace ∷ rest)
    → members_from names r fuel found height ts ≡ Some ((found ++ m ∷ others, max height (max hs (max hd ho))), rest)
members_end names r fuel found others height hs hd ho ts os rest m some low none alone is =
    let last = members_last names r fuel found height (max hs hd) ts rest m some (rw none at is) in
    let high : max height (max hs hd) ≡ max height (max hs (max hd 0)) = omega arith in
    rw (low, alone, ← high) last

member_place : (ss dts os rest : Kinds) → (ss ++ dts ++ Mark mark.Semicolon ∷ os) ++ rest ≡ ss ++ (dts ++ Mark mark.Semicolon ∷ (os ++ rest))
member_place ss dts os rest = append_assoc (ss ++ dts) (Mark mark.Semicolon ∷ os) rest ∙ append_assoc ss dts (Mark mark.Semicolon ∷ (os ++ rest))

member_length : (ss dts os : Kinds) → length (ss ++ dts ++ Mark mark.Semicolon ∷ os) ≡ length ss + (length dts + suc (length os))
member_length ss dts os = length-append (ss ++ dts) (Mark mark.Semicolon ∷ os) ∙ (let two = length-append ss dts in omega arith)

members_from_take : {names : List (List ℕ)} {n : ℕ} {r : Readers} → AreComplete names n r → {h : ℕ} {ts : Kinds} {ms : List MemberDecl} → MembersRead names h ts ms → ms ≢ [] → h ≤ n → (rest : Kinds)
    → (fuel : ℕ) → length ts ≤ fuel → (found : List MemberDecl) (height : ℕ) → members_from names r fuel found height (ts ++ Mark mark.RightBrace ∷ rest) ≡ Some ((found ++ ms, max height h), rest)
members_from_take inner (MembersRead.no_member h ts ms hi is mi) some deep rest fuel enough found height = absurd (some mi)
members_from_take inner (MembersRead.more_members h ts ms s xs ds others hs hd ho ss dts os hi is mi first second more) some deep rest zero enough found height =
    let long = ap (λ ks. length ks) is ∙ member_length ss dts os in absurd (omega arith)
members_from_take {names} {r = r} inner (MembersRead.more_members h ts ms s xs ds others hs hd ho ss dts os hi is mi first second more) some deep rest (suc k) enough found height =
    let m = roll-MemberDecl (record { spec = s; declarators = ds }) in
    let after = os ++ Mark mark.RightBrace ∷ rest in
    let all = ss ++ (dts ++ Mark mark.Semicolon ∷ after) in
    let begins = begins_some (CanBeginSpec names) ss (SpecReads-begins first) in
    let long = ap (λ ks. length ks) is ∙ member_length ss dts os in
    let taken : member names r all ≡ Some ((m, max hs hd), after) = member_takes inner first second (omega arith) (omega arith) after in
    rw (is, mi, hi, member_place ss dts os (Mark mark.RightBrace ∷ rest)) (elim (MembersRead-begins more) [
      | inl none ↦ members_end names r (suc k) found others height hs hd ho all os rest m (omega arith) none.0 none.1 none.2 taken
      | inr some_more ↦ members_before names r k found height (max hs hd) all after m (lacks_append (CanBeginSpec names) mark.RightBrace os _ some_more.0 (spec_lacks names mark.RightBrace os some_more.0)) taken
          ∙ (members_from_take inner more some_more.1 (omega arith) rest k (omega arith) (found ++ m ∷ []) (max height (max hs hd)) ∙ members_found found others m height hs hd ho rest)
    ])

-- whichever readers read the members, if they read those of every body that is at most so deep
abbrev pub MembersTaken : List (List ℕ) → ℕ → Readers → Type 0
MembersTaken names depth r = (h : ℕ) (ts : Kinds) (ms : List MemberDecl) → 1 + h ≤ depth → ms ≢ [] → MembersRead names h ts ms → (rest : Kinds) → members names r (ts ++ Mark mark.RightBrace ∷ rest) ≡ Some ((ms, h), rest)

members_take : {names : List (List ℕ)} {n : ℕ} {r : Readers} → AreComplete names n r → MembersTaken names (suc n) r
unfolding members
members_take inner h ts ms deep some read rest =
    let all = members_from_take inner read some (omega arith) rest (length (ts ++ Mark mark.RightBrace ∷ rest)) (let l = length-append ts (Mark mark.RightBrace ∷ rest) in omega arith) [] 0 in
    let high : max 0 h ≡ h = omega arith in
    all ∙ ap (λ k. Some ((ms, k), rest)) high

-- ---- specs

and_false : (b : Bool) → (b && false) ≡ false
and_false true = refl
and_false false = refl

spec_by_members : (names : List (List ℕ)) (depth : ℕ) (r : Readers) → MembersTaken names depth r → (bodies : Bool) (h : ℕ) (ts : Kinds) (s : Spec) → h ≤ depth → SpecReads names bodies h ts s
    → Takes (spec names r bodies) (Lacks mark.LeftBrace) h ts s
unfolding spec struct struct_body free_name expect same_mark
spec_by_members names depth r taken bodies h ts s deep (SpecReads.int _ _ _ _ hi is si) rest lacks = rw (is, hi, si)
spec_by_members names depth r taken bodies h ts s deep (SpecReads.char _ _ _ _ hi is si) rest lacks = rw (is, hi, si)
spec_by_members names depth r taken bodies h ts s deep (SpecReads.void _ _ _ _ hi is si) rest lacks = rw (is, hi, si)
spec_by_members names depth r taken bodies h ts s deep (SpecReads.type_name _ _ _ _ x hi known is si) rest lacks = rw (is, hi, si, contains_type_name names x known)
spec_by_members names depth r taken bodies h ts s deep (SpecReads.tag _ _ _ _ x hi free is si) rest lacks = rw (is, hi, si, free_is_no_type_name names x free) (rw lacks (rw (and_false bodies)))
spec_by_members names depth r taken bodies h ts s deep (SpecReads.body _ _ _ _ x hm ms inside may hi free is si some read) rest lacks =
    rw (is, hi, si, may, free_is_no_type_name names x free) (rw (append_assoc ms (Mark mark.RightBrace ∷ []) rest) (rw (taken hm ms inside (omega arith) some read rest)))

pub spec_takes : (names : List (List ℕ)) (n : ℕ) (r : Readers) → AreComplete names n r → (bodies : Bool) (h : ℕ) (ts : Kinds) (s : Spec) → h ≤ suc n → SpecReads names bodies h ts s
    → Takes (spec names r bodies) (Lacks mark.LeftBrace) h ts s
spec_takes names n r inner bodies h ts s deep read = spec_by_members names (suc n) r (members_take inner) bodies h ts s deep read

-- with no node there is no body, so any readers of members serve
pub spec_takes_word : (names : List (List ℕ)) (r : Readers) (bodies : Bool) (h : ℕ) (ts : Kinds) (s : Spec) → h ≤ 0 → SpecReads names bodies h ts s → Takes (spec names r bodies) (Lacks mark.LeftBrace) h ts s
spec_takes_word names r bodies h ts s deep read = spec_by_members names 0 r (λ k ks ms low some read. absurd (omega arith)) bodies h ts s deep read

-- ---- parameters

-- the parsers of specs, declarators and abstract declarators take those of this depth
pub record TakeParts (names : List (List ℕ)) (depth : ℕ) (s : Bool → Parser (WithHeight Spec)) (d : Parser (WithHeight Declarator)) (a : Parser (WithHeight AbstractDeclarator)) : Type 0 where
  pub spec : (bodies : Bool) (h : ℕ) (ts : Kinds) (x : Spec) → h ≤ depth → SpecReads names bodies h ts x → Takes (s bodies) (Lacks mark.LeftBrace) h ts x
  pub declarator : (h : ℕ) (y : List ℕ) (ts : Kinds) (x : Declarator) → h ≤ depth → DeclaratorReads names h y ts x → Takes d LacksSuffix h ts x
  pub abstract : (h : ℕ) (ts : Kinds) (x : AbstractDeclarator) → h ≤ depth → AbstractReads names h ts x → Takes a Closes h ts x

closes_not_free : (names : List (List ℕ)) (rest : Kinds) → Closes rest → Begins (NotFree names) (core rest)
closes_not_free names rest (ks, inl is) = rw is (λ x e. cc)
closes_not_free names rest (ks, inr is) = rw is (λ x e. cc)

param_takes : {names : List (List ℕ)} {depth : ℕ} {s : Bool → Parser (WithHeight Spec)} {d : Parser (WithHeight Declarator)} {a : Parser (WithHeight AbstractDeclarator)} → TakeParts names depth s d a
    → (h : ℕ) (ts : Kinds) (p : Param) → h ≤ depth → ParamReads names h ts p → Takes (param names s d a) Closes h ts p
unfolding param
param_takes {names} parts h ts p deep (ParamReads.named _ _ _ s d x hs hd ss ds hi is pi first second) rest ends =
    let begins = DeclaratorReads-begins second in
    let no_brace = lacks_append (CanBeginDeclarator names) mark.LeftBrace ds rest begins (declarator_lacks names mark.LeftBrace ds brace_opens_nothing begins) in
    rw (is, hi, pi, append_assoc ss ds rest) (rw (parts.spec true hs ss s (omega arith) first (ds ++ rest) no_brace) (rw (named_looks names x (ds ++ rest) (DeclaratorReads-core second rest))
    (rw (parts.declarator hd x ds d (omega arith) second rest (closes_lacks_suffix rest ends)))))
param_takes {names} parts h ts p deep (ParamReads.unnamed _ _ _ s a hs ha ss ats hi is pi first second) rest ends =
    let no_brace = AbstractReads-lacks mark.LeftBrace brace_opens_nothing second rest (closes_no_brace rest ends) in
    rw (is, hi, pi, append_assoc ss ats rest) (rw (parts.spec true hs ss s (omega arith) first (ats ++ rest) no_brace) (rw (unnamed_looks names (ats ++ rest) (AbstractReads-core second rest (closes_not_free names rest ends)))
    (rw (parts.abstract ha ats a (omega arith) second rest ends))))

pub params_separated : {names : List (List ℕ)} {h : ℕ} {ts : Kinds} {ps : List Param} → ParamListReads names h ts ps → SeparatedRead (λ k ks p. ParamReads names k ks p) h ts ps
params_separated (ParamListReads.one_param h ts ps p pi read) = SeparatedRead.one_item h ts ps p pi read
params_separated (ParamListReads.more_params h ts ps p others hp ho pts os hi is pi read more) = SeparatedRead.more_items h ts ps p others hp ho pts os hi is pi read (params_separated more)

param_items : {names : List (List ℕ)} {depth : ℕ} {s : Bool → Parser (WithHeight Spec)} {d : Parser (WithHeight Declarator)} {a : Parser (WithHeight AbstractDeclarator)} → TakeParts names depth s d a
    → TakesItems (λ k ks p. ParamReads names k ks p) (param names s d a) Closes depth
param_items {names} parts = record {
  takes = param_takes parts;
  some = λ h ts p read. begins_some (CanBeginSpec names) ts (ParamReads-begins read);
  comma = λ ks. (ks, inr refl);
}

-- `void` and a closing parenthesis begin no list of parameters but that of `void` alone
module _ (names : List (List ℕ)) (s : Bool → Parser (WithHeight Spec)) (d : Parser (WithHeight Declarator)) (a : Parser (WithHeight AbstractDeclarator)) where
  abbrev IsVoid : Kinds → Type 0
  IsVoid ts = is_void_alone names s d a ts ≡ true

  void_same : {ts us : Kinds} (rest : Kinds) → ts ≡ us → IsVoid (ts ++ rest) → IsVoid (us ++ rest)
  void_same rest is h = subst (λ ks. IsVoid (ks ++ rest)) is h

  spec_void : {bodies : Bool} {h : ℕ} {ts : Kinds} {x : Spec} → SpecReads names bodies h ts x → (rest : Kinds) → IsVoid (ts ++ rest) → (ts ≡ Word word.Void ∷ []) × (sees mark.RightParenthesis rest ≡ true)
  unfolding same_word
  spec_void (SpecReads.int bodies h ts x hi is xi) rest void = absurd (true≢false (sym (void_same rest is void)))
  spec_void (SpecReads.char bodies h ts x hi is xi) rest void = absurd (true≢false (sym (void_same rest is void)))
  spec_void (SpecReads.void bodies h ts x hi is xi) rest void = (is, void_same rest is void)
  spec_void (SpecReads.type_name bodies h ts x y hi known is xi) rest void = absurd (true≢false (sym (void_same rest is void)))
  spec_void (SpecReads.tag bodies h ts x y hi free is xi) rest void = absurd (true≢false (sym (void_same rest is void)))
  spec_void (SpecReads.body bodies h ts x y hm ms inside may hi free is xi some read) rest void = absurd (true≢false (sym (void_same rest is void)))

  nothing_closes : (ts rest : Kinds) → Lacks mark.RightParenthesis (ts ++ []) → sees mark.RightParenthesis (ts ++ rest) ≡ true → ts ≡ []
  nothing_closes [] rest lacks is = refl
  nothing_closes (k ∷ ks) rest lacks is = absurd (true≢false (sym is ∙ lacks))

  param_void : {h : ℕ} {ts : Kinds} {p : Param} → ParamReads names h ts p → (rest : Kinds) → IsVoid (ts ++ rest) → (ts ≡ Word word.Void ∷ []) × (sees mark.RightParenthesis rest ≡ true)
  param_void (ParamReads.named h ts p t e x hs hd ss ds hi is pi first second) rest void =
      let begins = DeclaratorReads-begins second in
      let lacks = lacks_append (CanBeginDeclarator names) mark.RightParenthesis ds rest begins (declarator_lacks names mark.RightParenthesis ds closing_opens_nothing begins) in
      let found = spec_void first (ds ++ rest) (rw append_assoc at (void_same rest is void)) in
      absurd (true≢false (sym found.1 ∙ lacks))
  param_void (ParamReads.unnamed h ts p t b hs ha ss ats hi is pi first second) rest void =
      let found = spec_void first (ats ++ rest) (rw append_assoc at (void_same rest is void)) in
      let empty = nothing_closes ats rest (AbstractReads-lacks mark.RightParenthesis closing_opens_nothing second [] refl) found.1 in
      (is ∙ rw (found.0, empty), rw empty at found.1)

  list_not_void : {h : ℕ} {ts : Kinds} {ps : List Param} → ParamListReads names h ts ps → ts ≢ Word word.Void ∷ [] → (rest : Kinds) → IsVoid (ts ++ rest) → ⊥
  unfolding same_mark
  list_not_void (ParamListReads.one_param h ts ps p pi read) not rest void = not (param_void read rest void).0
  list_not_void (ParamListReads.more_params h ts ps p others hp ho pts os hi is pi read more) not rest void =
      true≢false (sym (param_void read (Mark mark.Comma ∷ (os ++ rest)) (rw (append_assoc pts (Mark mark.Comma ∷ os) rest) at (void_same rest is void))).1)

not_true : (b : Bool) → (b ≡ true → ⊥) → b ≡ false
not_true true not = absurd (not refl)
not_true false not = refl

parenthesis_no_comma : (ks : Kinds) → Lacks mark.Comma (Mark mark.RightParenthesis ∷ ks)
unfolding same_mark
parenthesis_no_comma ks = refl

pub params_take : (names : List (List ℕ)) (depth : ℕ) (s : Bool → Parser (WithHeight Spec)) (d : Parser (WithHeight Declarator)) (a : Parser (WithHeight AbstractDeclarator)) → TakeParts names depth s d a
    → (h : ℕ) (ts : Kinds) (p : Params) → h ≤ depth → ParamsRead names h ts p → Takes (params names s d a) ClosesParenthesis h ts p
unfolding params same_mark same_word
params_take names depth s d a parts h ts p deep (ParamsRead.nothing _ _ _ hi is pi) rest (ks, ends) = rw (is, hi, pi, ends)
params_take names depth s d a parts h ts p deep (ParamsRead.void_alone _ _ _ hi is pi) rest (ks, ends) = rw (is, hi, pi, ends)
params_take names depth s d a parts h ts p deep (ParamsRead.some _ _ _ ps not pi read) rest (ks, ends) =
    let begins = ParamListReads-begins read in
    let no_closing = lacks_append (CanBeginSpec names) mark.RightParenthesis ts rest begins (spec_lacks names mark.RightParenthesis ts begins) in
    let no_void = not_true (is_void_alone names s d a (ts ++ rest)) (list_not_void names s d a read not rest) in
    let no_comma : Lacks mark.Comma rest = rw ends (parenthesis_no_comma ks) in
    rw (no_closing, no_void, pi) (rw (separated_takes (param_items parts) (params_separated read) deep rest (ks, inl ends) no_comma))
