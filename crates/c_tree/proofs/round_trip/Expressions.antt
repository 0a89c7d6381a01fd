-- What is printed of an expression, spec or declarator is read as the same tree, as deep as before, and can be spelled
-- where the tokens that the tree was read from can.
use Rattle.std.proofs.Common.{◌≡◌, ◌≢◌, ◌∙◌, inl, inr, ℕ, zero, suc, ◌+◌, ◌<◌, ◌≤◌, Bool, List, [], ◌∷◌, ◌++◌, map, refl, ap, sym, subst, append_assoc, arith, Some, None}
use Rattle.std.proofs.lemmas.List.{append-nil}
use Rattle.c_tokens.specs.declared.token.Keyword.TheVariants as word
use Rattle.c_tokens.specs.declared.token.Kind.{Kind}
use Rattle.c_tokens.specs.declared.token.Kind.TheVariants.{Word, Name, Mark}
use Rattle.c_tokens.specs.declared.token.Mark.TheVariants as mark
use Rattle.c_tree.specs.declared.expression.AbstractDeclarator.{AbstractDeclarator}
use Rattle.c_tree.specs.declared.operator.BinaryOperator.{BinaryOperator}
use Rattle.c_tree.specs.declared.operator.BinaryOperator.TheVariants as binary
use Rattle.c_tree.specs.declared.expression.Declarator.{Declarator}
use Rattle.c_tree.specs.declared.expression.Direct.{Direct}
use Rattle.c_tree.specs.declared.expression.Direct.TheVariants as direct
use Rattle.c_tree.specs.declared.expression.Expr.{Expr}
use Rattle.c_tree.specs.declared.expression.MemberDecl.{MemberDecl}
use Rattle.c_tree.specs.declared.expression.Param.{Param}
use Rattle.c_tree.specs.declared.expression.Params.{Params}
use Rattle.c_tree.specs.declared.expression.Spec.{Spec}
use Rattle.c_tree.specs.declared.expression.Suffix.{Suffix}
use Rattle.c_tree.specs.declared.expression.TypeWord.{TypeWord}
use Rattle.c_tree.specs.Marks.{Kinds, wrapped, greatest_pairs, assign_mark, binary_mark, unary_mark, primary_level, binary_level, assign_level, conditional_level, loosest_binary, cast_level, unary_level, postfix_level}
use Rattle.c_tree.specs.Grammar.{star_kinds, SpecReads, MembersRead, DeclaratorsRead, DeclaratorReads, DeclaratorForm, DirectReads, SuffixesRead, SuffixReads, ParamsRead, ParamListReads, ParamReads, AbstractReads, AbstractForm, TypeWordReads, ExprReads, ExprForm, ArgumentsRead, ArgumentListReads}
use Rattle.c_tree.specs.Printed.{joined, with_commas, after_commas, printed_expr, printed_spec, printed_member, printed_declarator, printed_direct, printed_suffix, printed_params, printed_param, printed_abstract, printed_type_word}
use Rattle.c_tree.proofs.PrintedLemmas as Printed
use Rattle.c_tree.proofs.round_trip.SpellingIsKept.{Kept, kept-none, kept-mark, kept-word, kept-token, kept-append, kept-from, kept-to, kept-wrapped}

-- tokens `us` that are printed of what `ts` reads
pub record Reprinted (Reads : Kinds → Type 0) (ts us : Kinds) : Type 0 where
  pub read : Reads us
  pub kept : Kept ts us

-- with tokens in parentheses
pub record Enclosed (Reads : Kinds → Type 0) (ts us : Kinds) : Type 0 where
  pub inner : Kinds
  pub is : us ≡ wrapped 1 inner
  pub read : Reads inner
  pub kept : Kept ts inner

-- with commas between at least one
pub record Listed (Reads : Kinds → Type 0) (ts : Kinds) (uss : List Kinds) : Type 0 where
  pub some : after_commas uss ≡ Mark mark.Comma ∷ with_commas uss
  pub read : Reads (with_commas uss)
  pub kept : Kept ts (with_commas uss)

no_pairs : 0 ≤ greatest_pairs
no_pairs = omega arith

one_pair : 1 ≤ greatest_pairs
one_pair = omega arith

binary_low : (op : BinaryOperator) → 1 + binary_level op ≤ primary_level
binary_low binary.LogicalOr = omega arith
binary_low binary.LogicalAnd = omega arith
binary_low binary.BitwiseOr = omega arith
binary_low binary.BitwiseExclusiveOr = omega arith
binary_low binary.BitwiseAnd = omega arith
binary_low binary.Equal = omega arith
binary_low binary.NotEqual = omega arith
binary_low binary.Less = omega arith
binary_low binary.Greater = omega arith
binary_low binary.LessEqual = omega arith
binary_low binary.GreaterEqual = omega arith
binary_low binary.ShiftLeft = omega arith
binary_low binary.ShiftRight = omega arith
binary_low binary.Add = omega arith
binary_low binary.Subtract = omega arith
binary_low binary.Multiply = omega arith
binary_low binary.Divide = omega arith
binary_low binary.Remainder = omega arith

-- one of a list
pub listed-one : {X : Type 0} (f : X → Kinds) {Reads : Kinds → Type 0} {ts : Kinds} {xs : List X} {x : X} → xs ≡ x ∷ [] → Reprinted Reads ts (f x) → Listed Reads ts (map f xs)
listed-one f {Reads} {ts} {xs} {x} is r =
    subst (λ l. Listed Reads ts (map f l)) (sym is)
    (record { some = refl; read = subst Reads (sym (append-nil (f x))) r.read; kept = kept-to (append-nil (f x)) r.kept })

-- one more than a list
pub listed-more : {X : Type 0} (f : X → Kinds) {Other Reads : Kinds → Type 0} {ts vs ws : Kinds} {xs others : List X} {x : X} → xs ≡ x ∷ others → ts ≡ vs ++ Mark mark.Comma ∷ ws
    → Kept vs (f x) → Listed Other ws (map f others) → Reads (f x ++ Mark mark.Comma ∷ with_commas (map f others)) → Listed Reads ts (map f xs)
listed-more f {Other} {Reads} {ts} {vs} {ws} {xs} {others} {x} is tis k l r =
    subst (λ l. Listed Reads ts (map f l)) (sym is)
    (let same = ap (λ ks. f x ++ ks) l.some in
    record { some = refl; read = subst Reads (sym same) r; kept = kept-to same (kept-from tis (kept-append k (kept-mark mark.Comma l.kept))) })

-- an expression of any level
abbrev pub ExprReprint : List (List ℕ) → ℕ → Kinds → Expr → Type 0
ExprReprint names h ts e = (least : ℕ) → least ≤ primary_level → Reprinted (λ us. ExprReads names least h us e) ts (printed_expr e)

-- one in parentheses
compound : {names : List (List ℕ)} {level h : ℕ} {ts inner form : Kinds} {e : Expr} → printed_expr e ≡ wrapped 1 form → ts ≡ inner → ExprForm names level h form e → Kept inner form → ExprReprint names h ts e
compound {level = level} is tis form k = λ least low. record { read = ExprReads.reads least _ _ _ 1 level _ one_pair (inr (omega arith)) is form; kept = kept-to is (kept-from tis (kept-wrapped 0 1 k)) }

-- one of one token
alone : {names : List (List ℕ)} {h : ℕ} {ts form : Kinds} {e : Expr} → printed_expr e ≡ form → ts ≡ form → ExprForm names primary_level h form e → ExprReprint names h ts e
alone is tis form = λ least low. record { read = ExprReads.reads least _ _ _ 0 primary_level _ no_pairs (inl low) is form; kept = kept-to is (kept-from tis (record { keep = λ h. h })) }

-- A list of parameters is printed as `void` alone only where it was so before.

no_token : {k : Kind} {ks ls : Kinds} → ls ≡ k ∷ ks → ls ≢ []
no_token is none = cc

suffix-some : {names : List (List ℕ)} {h : ℕ} {ts : Kinds} {s : Suffix} → SuffixReads names h ts s → (ks : Kinds) → printed_suffix s ++ ks ≢ []
suffix-some (SuffixReads.unbounded h ts s his tis sis) ks = no_token (ap (λ ls. ls ++ ks) (ap printed_suffix sis ∙ Printed.suffix-Array None))
suffix-some (SuffixReads.bounded h ts s e es tis sis r) ks = no_token (ap (λ ls. ls ++ ks) (ap printed_suffix sis ∙ Printed.suffix-Array (Some e)))
suffix-some (SuffixReads.function h ts s p ps tis sis r) ks = no_token (ap (λ ls. ls ++ ks) (ap printed_suffix sis ∙ Printed.suffix-Function p))

suffixes-none : {names : List (List ℕ)} {h : ℕ} {ts : Kinds} {ss : List Suffix} → SuffixesRead names h ts ss → joined (map printed_suffix ss) ≡ [] → ts ≡ []
suffixes-none (SuffixesRead.no_suffix h ts ss his tis sis) none = tis
suffixes-none (SuffixesRead.more_suffixes h ts ss s others hs ho sts os his tis sis rs ro) none =
    absurd (suffix-some rs (joined (map printed_suffix others)) (sym (ap (λ l. joined (map printed_suffix l)) sis) ∙ none))

abstract_form-none : {names : List (List ℕ)} {h stars : ℕ} {ts : Kinds} {a : AbstractDeclarator} → AbstractForm names h stars ts a → printed_abstract a ≡ [] → (ts ≡ []) × (0 < stars → ⊥)
abstract_form-none (AbstractForm.simple h zero ts a suffixes ss tis ais r) none =
    (tis ∙ suffixes-none r (sym (ap printed_abstract ais ∙ Printed.abstract-made zero None suffixes) ∙ none), λ more. omega (arith, more))
abstract_form-none (AbstractForm.simple h (suc n) ts a suffixes ss tis ais r) none = absurd (no_token (ap printed_abstract ais ∙ Printed.abstract-made (suc n) None suffixes) none)
abstract_form-none (AbstractForm.nested h zero ts a suffixes inside inner_stars hi hs inner ss his parts some tis ais ri rs) none =
    absurd (no_token (ap printed_abstract ais ∙ Printed.abstract-made zero (Some inside) suffixes) none)
abstract_form-none (AbstractForm.nested h (suc n) ts a suffixes inside inner_stars hi hs inner ss his parts some tis ais ri rs) none =
    absurd (no_token (ap printed_abstract ais ∙ Printed.abstract-made (suc n) (Some inside) suffixes) none)

abstract-none : {names : List (List ℕ)} {h : ℕ} {ts : Kinds} {a : AbstractDeclarator} → AbstractReads names h ts a → printed_abstract a ≡ [] → ts ≡ []
abstract-none (AbstractReads.open_form h ts a stars hf his r) none = (abstract_form-none r none).0
abstract-none (AbstractReads.in_parentheses h ts a stars hf inner his some tis r) none = absurd ((abstract_form-none r none).1 some)

declarator-some : {names : List (List ℕ)} {h : ℕ} {x : List ℕ} {ts : Kinds} {d : Declarator} → DeclaratorReads names h x ts d → printed_declarator d ≢ []
declarator-some (DeclaratorReads.plain h x ts d pairs his few free tis dis) = no_token (ap printed_declarator dis ∙ Printed.declarator-made 0 (direct.Name x) [] ∙ Printed.direct-Name x)
declarator-some (DeclaratorReads.formed h x ts d pairs hf inner his few tis (DeclaratorForm.form h2 x2 ts2 d2 stars inside suffixes hd hs ds ss his2 parts tis2 dis rd rs)) =
    no_token (ap printed_declarator dis ∙ Printed.declarator-made stars inside suffixes ∙ Printed.declarator-enclosed stars suffixes (printed_direct inside) parts)

abbrev void : Kinds
void = Word word.Void ∷ []

spec-void : {names : List (List ℕ)} {bodies : Bool} {h : ℕ} {ts : Kinds} {s : Spec} → SpecReads names bodies h ts s → (ks : Kinds) → printed_spec s ++ ks ≡ void → (ts ≡ void) × (ks ≡ [])
spec-void (SpecReads.int bodies h ts s his tis sis) ks is = let same = sym (ap (λ ls. ls ++ ks) (ap printed_spec sis ∙ Printed.spec-Int)) ∙ is in absurd cc
spec-void (SpecReads.char bodies h ts s his tis sis) ks is = let same = sym (ap (λ ls. ls ++ ks) (ap printed_spec sis ∙ Printed.spec-Char)) ∙ is in absurd cc
spec-void (SpecReads.void bodies h ts s his tis sis) ks is = let same = sym (ap (λ ls. ls ++ ks) (ap printed_spec sis ∙ Printed.spec-Void)) ∙ is in (tis, cc)
spec-void (SpecReads.type_name bodies h ts s x his known tis sis) ks is = let same = sym (ap (λ ls. ls ++ ks) (ap printed_spec sis ∙ Printed.spec-TypeName x)) ∙ is in absurd cc
spec-void (SpecReads.tag bodies h ts s x his free tis sis) ks is = let same = sym (ap (λ ls. ls ++ ks) (ap printed_spec sis ∙ Printed.spec-Struct x None)) ∙ is in absurd cc
spec-void (SpecReads.body bodies h ts s x hm ms members may his free tis sis some r) ks is = let same = sym (ap (λ ls. ls ++ ks) (ap printed_spec sis ∙ Printed.spec-Struct x (Some members))) ∙ is in absurd cc

both_empty : (ks ls : Kinds) → ks ++ ls ≡ [] → (ks ≡ []) × (ls ≡ [])
both_empty [] ls is = (refl, is)
both_empty (k ∷ ks) ls is = absurd cc

param-void : {names : List (List ℕ)} {h : ℕ} {ts : Kinds} {p : Param} → ParamReads names h ts p → (ks : Kinds) → printed_param p ++ ks ≡ void → (ts ≡ void) × (ks ≡ [])
param-void (ParamReads.named h ts p s d x hs hd ss ds his tis pis rs rd) ks is =
    let same = sym (ap (λ ls. ls ++ ks) (ap printed_param pis ∙ Printed.param-Named s d) ∙ append_assoc (printed_spec s) (printed_declarator d) ks) ∙ is in
    absurd (declarator-some rd (both_empty _ ks (spec-void rs _ same).1).0)
param-void (ParamReads.unnamed h ts p s a hs ha ss ats his tis pis rs ra) ks is =
    let same = sym (ap (λ ls. ls ++ ks) (ap printed_param pis ∙ Printed.param-Unnamed s a) ∙ append_assoc (printed_spec s) (printed_abstract a) ks) ∙ is in
    let v = spec-void rs _ same in
    let none = both_empty _ ks v.1 in
    (tis ∙ ap (λ ls. ls ++ ats) v.0 ∙ ap (λ ls. void ++ ls) (abstract-none ra none.0), none.1)

more_than_void : {names : List (List ℕ)} {h : ℕ} {ts : Kinds} {ps : List Param} → ParamListReads names h ts ps → after_commas (map printed_param ps) ≢ []
more_than_void (ParamListReads.one_param h ts ps p pis r) = no_token (ap (λ l. after_commas (map printed_param l)) pis)
more_than_void (ParamListReads.more_params h ts ps p others hp ho pts os his tis pis rp ro) = no_token (ap (λ l. after_commas (map printed_param l)) pis)

void_as_before : {names : List (List ℕ)} {h : ℕ} {ts : Kinds} {ps : List Param} → ParamListReads names h ts ps → with_commas (map printed_param ps) ≡ void → ts ≡ void
void_as_before (ParamListReads.one_param h ts ps p pis r) is = (param-void r [] (sym (ap (λ l. with_commas (map printed_param l)) pis) ∙ is)).0
void_as_before (ParamListReads.more_params h ts ps p others hp ho pts os his tis pis rp ro) is =
    absurd (more_than_void ro (param-void rp (after_commas (map printed_param others)) (sym (ap (λ l. with_commas (map printed_param l)) pis) ∙ is)).1)

mutual
  pub spec-again : {names : List (List ℕ)} {bodies : Bool} {h : ℕ} {ts : Kinds} {s : Spec} → SpecReads names bodies h ts s → Reprinted (λ us. SpecReads names bodies h us s) ts (printed_spec s)
  spec-again (SpecReads.int bodies h ts s his tis sis) =
      let is = ap printed_spec sis ∙ Printed.spec-Int in record { read = SpecReads.int bodies h _ s his is sis; kept = kept-to is (kept-from tis (kept-word word.Int kept-none)) }
  spec-again (SpecReads.char bodies h ts s his tis sis) =
      let is = ap printed_spec sis ∙ Printed.spec-Char in record { read = SpecReads.char bodies h _ s his is sis; kept = kept-to is (kept-from tis (kept-word word.Char kept-none)) }
  spec-again (SpecReads.void bodies h ts s his tis sis) =
      let is = ap printed_spec sis ∙ Printed.spec-Void in record { read = SpecReads.void bodies h _ s his is sis; kept = kept-to is (kept-from tis (kept-word word.Void kept-none)) }
  spec-again (SpecReads.type_name bodies h ts s x his known tis sis) =
      let is = ap printed_spec sis ∙ Printed.spec-TypeName x in record { read = SpecReads.type_name bodies h _ s x his known is sis; kept = kept-to is (kept-from tis (kept-token (Name x) kept-none)) }
  spec-again (SpecReads.tag bodies h ts s x his free tis sis) =
      let is = ap printed_spec sis ∙ Printed.spec-Struct x None in record { read = SpecReads.tag bodies h _ s x his free is sis; kept = kept-to is (kept-from tis (kept-word word.Struct (kept-token (Name x) kept-none))) }
  spec-again (SpecReads.body bodies h ts s x hm ms members may his free tis sis some r) =
      let m = members-again r in
      let is = ap printed_spec sis ∙ Printed.spec-Struct x (Some members) in
      record {
        read = SpecReads.body bodies h _ s x hm _ members may his free is sis some m.read;
        kept = kept-to is (kept-from tis (kept-append (kept-word word.Struct (kept-token (Name x) (kept-mark mark.LeftBrace m.kept))) (kept-mark mark.RightBrace kept-none)));
      }

  pub members-again : {names : List (List ℕ)} {h : ℕ} {ts : Kinds} {ms : List MemberDecl} → MembersRead names h ts ms → Reprinted (λ us. MembersRead names h us ms) ts (joined (map printed_member ms))
  members-again (MembersRead.no_member h ts ms his tis mis) =
      let is = ap (λ l. joined (map printed_member l)) mis in record { read = MembersRead.no_member h _ ms his is mis; kept = kept-to is kept-none }
  members-again (MembersRead.more_members h ts ms s xs ds others hs hd ho ss dts os his tis mis rs rd ro) =
      let a = spec-again rs in
      let b = declarators-again rd in
      let c = members-again ro in
      let is = ap (λ l. joined (map printed_member l)) mis ∙ ap (λ ks. ks ++ joined (map printed_member others)) (Printed.member-made s ds)
      ∙ append_assoc (printed_spec s ++ with_commas (map printed_declarator ds)) (Mark mark.Semicolon ∷ []) (joined (map printed_member others)) in
      record {
        read = MembersRead.more_members h _ ms s xs ds others hs hd ho _ _ _ his is mis a.read b.read c.read;
        kept = kept-to is (kept-from tis (kept-append (kept-append a.kept b.kept) (kept-mark mark.Semicolon c.kept)));
      }

  pub declarators-again : {names : List (List ℕ)} {h : ℕ} {xs : List (List ℕ)} {ts : Kinds} {ds : List Declarator} → DeclaratorsRead names h xs ts ds → Listed (λ us. DeclaratorsRead names h xs us ds) ts (map printed_declarator ds)
  declarators-again (DeclaratorsRead.one_declarator h xs ts ds d x xis dis r) =
      let a = declarator-again r in
      listed-one printed_declarator dis (record { read = DeclaratorsRead.one_declarator h xs _ ds d x xis dis a.read; kept = a.kept })
  declarators-again (DeclaratorsRead.more_declarators h xs ts ds d x others ys hd ho dts os his xis tis dis rd ro) =
      let a = declarator-again rd in
      let b = declarators-again ro in
      listed-more printed_declarator dis tis a.kept b (DeclaratorsRead.more_declarators h xs _ ds d x others ys hd ho _ _ his xis refl dis a.read b.read)

  pub declarator-again : {names : List (List ℕ)} {h : ℕ} {x : List ℕ} {ts : Kinds} {d : Declarator} → DeclaratorReads names h x ts d → Reprinted (λ us. DeclaratorReads names h x us d) ts (printed_declarator d)
  declarator-again (DeclaratorReads.plain h x ts d pairs his few free tis dis) =
      let is = ap printed_declarator dis ∙ Printed.declarator-made 0 (direct.Name x) [] ∙ Printed.direct-Name x in
      record { read = DeclaratorReads.plain h x _ d 0 his no_pairs free is dis; kept = kept-to is (kept-from tis (kept-wrapped pairs 0 (kept-token (Name x) kept-none))) }
  declarator-again (DeclaratorReads.formed h x ts d pairs hf inner his few tis r) =
      let a = declarator_form-again r in
      record { read = DeclaratorReads.formed h x _ d 1 hf a.inner his one_pair a.is a.read; kept = kept-to a.is (kept-from tis (kept-wrapped pairs 1 a.kept)) }

  pub declarator_form-again : {names : List (List ℕ)} {h : ℕ} {x : List ℕ} {ts : Kinds} {d : Declarator} → DeclaratorForm names h x ts d → Enclosed (λ us. DeclaratorForm names h x us d) ts (printed_declarator d)
  declarator_form-again (DeclaratorForm.form h x ts d stars inside suffixes hd hs ds ss his parts tis dis rd rs) =
      let a = direct-again rd in
      let b = suffixes-again rs in
      record {
        inner = star_kinds stars ++ printed_direct inside ++ joined (map printed_suffix suffixes);
        is = ap printed_declarator dis ∙ Printed.declarator-made stars inside suffixes ∙ Printed.declarator-enclosed stars suffixes (printed_direct inside) parts;
        read = DeclaratorForm.form h x _ d stars inside suffixes hd hs _ _ his parts refl dis a.read b.read;
        kept = kept-from tis (kept-append (kept-append (record { keep = λ k. k }) a.kept) b.kept);
      }

  pub direct-again : {names : List (List ℕ)} {h : ℕ} {x : List ℕ} {ts : Kinds} {d : Direct} → DirectReads names h x ts d → Reprinted (λ us. DirectReads names h x us d) ts (printed_direct d)
  direct-again (DirectReads.name_inside h x ts d pairs his few free tis dis) =
      let is = ap printed_direct dis ∙ Printed.direct-Name x in
      record { read = DirectReads.name_inside h x _ d 0 his no_pairs free is dis; kept = kept-to is (kept-from tis (kept-wrapped pairs 0 (kept-token (Name x) kept-none))) }
  direct-again (DirectReads.bracketed h x ts d pairs hf inner inside his some few tis dis r) =
      let a = declarator_form-again r in
      let is = ap printed_direct dis ∙ Printed.direct-Bracketed inside ∙ a.is in
      record { read = DirectReads.bracketed h x _ d 1 hf a.inner inside his (omega arith) one_pair is dis a.read; kept = kept-to is (kept-from tis (kept-wrapped pairs 1 a.kept)) }

  pub suffixes-again : {names : List (List ℕ)} {h : ℕ} {ts : Kinds} {ss : List Suffix} → SuffixesRead names h ts ss → Reprinted (λ us. SuffixesRead names h us ss) ts (joined (map printed_suffix ss))
  suffixes-again (SuffixesRead.no_suffix h ts ss his tis sis) =
      let is = ap (λ l. joined (map printed_suffix l)) sis in record { read = SuffixesRead.no_suffix h _ ss his is sis; kept = kept-to is kept-none }
  suffixes-again (SuffixesRead.more_suffixes h ts ss s others hs ho sts os his tis sis rs ro) =
      let a = suffix-again rs in
      let b = suffixes-again ro in
      let is = ap (λ l. joined (map printed_suffix l)) sis in
      record { read = SuffixesRead.more_suffixes h _ ss s others hs ho _ _ his is sis a.read b.read; kept = kept-to is (kept-from tis (kept-append a.kept b.kept)) }

  pub suffix-again : {names : List (List ℕ)} {h : ℕ} {ts : Kinds} {s : Suffix} → SuffixReads names h ts s → Reprinted (λ us. SuffixReads names h us s) ts (printed_suffix s)
  suffix-again (SuffixReads.unbounded h ts s his tis sis) =
      let is = ap printed_suffix sis ∙ Printed.suffix-Array None in
      record { read = SuffixReads.unbounded h _ s his is sis; kept = kept-to is (kept-from tis (kept-mark mark.LeftBracket (kept-mark mark.RightBracket kept-none))) }
  suffix-again (SuffixReads.bounded h ts s e es tis sis r) =
      let a = expr-again r conditional_level (omega arith) in
      let is = ap printed_suffix sis ∙ Printed.suffix-Array (Some e) in
      record { read = SuffixReads.bounded h _ s e _ is sis a.read; kept = kept-to is (kept-from tis (kept-append (kept-mark mark.LeftBracket a.kept) (kept-mark mark.RightBracket kept-none))) }
  suffix-again (SuffixReads.function h ts s p ps tis sis r) =
      let a = params-again r in
      let is = ap printed_suffix sis ∙ Printed.suffix-Function p in
      record { read = SuffixReads.function h _ s p _ is sis a.read; kept = kept-to is (kept-from tis (kept-wrapped 1 1 a.kept)) }

  pub params-again : {names : List (List ℕ)} {h : ℕ} {ts : Kinds} {p : Params} → ParamsRead names h ts p → Reprinted (λ us. ParamsRead names h us p) ts (printed_params p)
  params-again (ParamsRead.nothing h ts p his tis pis) =
      let is = ap printed_params pis ∙ Printed.params-Nothing in record { read = ParamsRead.nothing h _ p his is pis; kept = kept-to is kept-none }
  params-again (ParamsRead.void_alone h ts p his tis pis) =
      let is = ap printed_params pis ∙ Printed.params-VoidAlone in record { read = ParamsRead.void_alone h _ p his is pis; kept = kept-to is (kept-from tis (kept-word word.Void kept-none)) }
  params-again {names} (ParamsRead.some h ts p ps other pis r) =
      let a = param_list-again r in
      let is = ap printed_params pis ∙ Printed.params-List ps in
      record { read = ParamsRead.some h _ p ps (λ void. other (void_as_before r (sym is ∙ void))) pis (subst (λ us. ParamListReads names h us ps) (sym is) a.read); kept = kept-to is a.kept }

  pub param_list-again : {names : List (List ℕ)} {h : ℕ} {ts : Kinds} {ps : List Param} → ParamListReads names h ts ps → Listed (λ us. ParamListReads names h us ps) ts (map printed_param ps)
  param_list-again (ParamListReads.one_param h ts ps p pis r) =
      let a = param-again r in listed-one printed_param pis (record { read = ParamListReads.one_param h _ ps p pis a.read; kept = a.kept })
  param_list-again (ParamListReads.more_params h ts ps p others hp ho pts os his tis pis rp ro) =
      let a = param-again rp in
      let b = param_list-again ro in
      listed-more printed_param pis tis a.kept b (ParamListReads.more_params h _ ps p others hp ho _ _ his refl pis a.read b.read)

  pub param-again : {names : List (List ℕ)} {h : ℕ} {ts : Kinds} {p : Param} → ParamReads names h ts p → Reprinted (λ us. ParamReads names h us p) ts (printed_param p)
  param-again (ParamReads.named h ts p s d x hs hd ss ds his tis pis rs rd) =
      let a = spec-again rs in
      let b = declarator-again rd in
      let is = ap printed_param pis ∙ Printed.param-Named s d in
      record { read = ParamReads.named h _ p s d x hs hd _ _ his is pis a.read b.read; kept = kept-to is (kept-from tis (kept-append a.kept b.kept)) }
  param-again (ParamReads.unnamed h ts p s a hs ha ss ats his tis pis rs ra) =
      let b = spec-again rs in
      let c = abstract-again ra in
      let is = ap printed_param pis ∙ Printed.param-Unnamed s a in
      record { read = ParamReads.unnamed h _ p s a hs ha _ _ his is pis b.read c.read; kept = kept-to is (kept-from tis (kept-append b.kept c.kept)) }

  pub abstract-again : {names : List (List ℕ)} {h : ℕ} {ts : Kinds} {a : AbstractDeclarator} → AbstractReads names h ts a → Reprinted (λ us. AbstractReads names h us a) ts (printed_abstract a)
  abstract-again (AbstractReads.open_form h ts a stars hf his r) =
      let b = abstract_form-again r in record { read = AbstractReads.open_form h _ a stars hf his b.read; kept = b.kept }
  abstract-again (AbstractReads.in_parentheses h ts a stars hf inner his some tis r) =
      let b = abstract_form-again r in record { read = AbstractReads.open_form h _ a stars hf his b.read; kept = kept-from tis (kept-wrapped 1 0 b.kept) }

  pub abstract_form-again : {names : List (List ℕ)} {h stars : ℕ} {ts : Kinds} {a : AbstractDeclarator} → AbstractForm names h stars ts a → Reprinted (λ us. AbstractForm names h stars us a) ts (printed_abstract a)
  abstract_form-again (AbstractForm.simple h stars ts a suffixes ss tis ais r) =
      let b = suffixes-again r in
      let is = ap printed_abstract ais ∙ Printed.abstract-made stars None suffixes ∙ ap (λ ks. ks ++ joined (map printed_suffix suffixes)) (append-nil (star_kinds stars)) in
      record { read = AbstractForm.simple h stars _ a suffixes _ is ais b.read; kept = kept-to is (kept-from tis (kept-append (record { keep = λ k. k }) b.kept)) }
  abstract_form-again (AbstractForm.nested h stars ts a suffixes inside inner_stars hi hs inner ss his parts some tis ais ri rs) =
      let b = abstract_form-again ri in
      let c = suffixes-again rs in
      let is = ap printed_abstract ais ∙ Printed.abstract-made stars (Some inside) suffixes in
      record {
        read = AbstractForm.nested h stars _ a suffixes inside inner_stars hi hs _ _ his parts some is ais b.read c.read;
        kept = kept-to is (kept-from tis (kept-append (kept-append (record { keep = λ k. k }) (kept-wrapped 1 1 b.kept)) c.kept));
      }

  pub type_word-again : {names : List (List ℕ)} {h : ℕ} {ts : Kinds} {t : TypeWord} → TypeWordReads names h ts t → Reprinted (λ us. TypeWordReads names h us t) ts (printed_type_word t)
  type_word-again (TypeWordReads.type_word h ts t s a hs ha ss ats his tis wis rs ra) =
      let b = spec-again rs in
      let c = abstract-again ra in
      let is = ap printed_type_word wis ∙ Printed.type_word-made s a in
      record { read = TypeWordReads.type_word h _ t s a hs ha _ _ his is wis b.read c.read; kept = kept-to is (kept-from tis (kept-append b.kept c.kept)) }

  pub expr-again : {names : List (List ℕ)} {least h : ℕ} {ts : Kinds} {e : Expr} → ExprReads names least h ts e → ExprReprint names h ts e
  expr-again (ExprReads.reads least h ts e pairs level inner few fits tis r) =
      λ wanted low. let a = form-again r wanted low in record { read = a.read; kept = kept-from tis (kept-wrapped pairs 0 a.kept) }

  pub form-again : {names : List (List ℕ)} {level h : ℕ} {ts : Kinds} {e : Expr} → ExprForm names level h ts e → ExprReprint names h ts e
  form-again (ExprForm.assign level h ts e a b op ha hb ats bs lis his tis eis ra rb) =
      let x = expr-again ra unary_level (omega arith) in
      let y = expr-again rb assign_level (omega arith) in
      compound (ap printed_expr eis ∙ Printed.expr-Assign a op b) tis (ExprForm.assign level h _ e a b op ha hb _ _ lis his refl eis x.read y.read) (kept-append x.kept (kept-mark (assign_mark op) y.kept))
  form-again (ExprForm.conditional level h ts e c a b hc ha hb cs ats bs lis his tis eis rc ra rb) =
      let x = expr-again rc loosest_binary (omega arith) in
      let y = expr-again ra assign_level (omega arith) in
      let z = expr-again rb conditional_level (omega arith) in
      compound (ap printed_expr eis ∙ Printed.expr-Conditional c a b) tis (ExprForm.conditional level h _ e c a b hc ha hb _ _ _ lis his refl eis x.read y.read z.read) (kept-append (kept-append x.kept (kept-mark mark.Question y.kept)) (kept-mark mark.Colon z.kept))
  form-again (ExprForm.binary level h ts e a b op ha hb ats bs lis his tis eis ra rb) =
      let low = binary_low op in
      let x = expr-again ra (binary_level op) (omega (arith, low)) in
      let y = expr-again rb (1 + binary_level op) low in
      compound (ap printed_expr eis ∙ Printed.expr-Binary a op b) tis (ExprForm.binary level h _ e a b op ha hb _ _ lis his refl eis x.read y.read) (kept-append x.kept (kept-mark (binary_mark op) y.kept))
  form-again (ExprForm.cast level h ts e t a ht ha tts ats lis his tis eis rt ra) =
      let x = type_word-again rt in
      let y = expr-again ra cast_level (omega arith) in
      compound (ap printed_expr eis ∙ Printed.expr-Cast t a) tis (ExprForm.cast level h _ e t a ht ha _ _ lis his refl eis x.read y.read) (kept-append (kept-wrapped 1 1 x.kept) y.kept)
  form-again (ExprForm.pre_increment level h ts e a ha ats lis his tis eis ra) =
      let x = expr-again ra unary_level (omega arith) in
      compound (ap printed_expr eis ∙ Printed.expr-PreIncrement a) tis (ExprForm.pre_increment level h _ e a ha _ lis his refl eis x.read) (kept-mark mark.Increment x.kept)
  form-again (ExprForm.pre_decrement level h ts e a ha ats lis his tis eis ra) =
      let x = expr-again ra unary_level (omega arith) in
      compound (ap printed_expr eis ∙ Printed.expr-PreDecrement a) tis (ExprForm.pre_decrement level h _ e a ha _ lis his refl eis x.read) (kept-mark mark.Decrement x.kept)
  form-again (ExprForm.unary level h ts e a op ha ats lis his tis eis ra) =
      let x = expr-again ra cast_level (omega arith) in
      compound (ap printed_expr eis ∙ Printed.expr-Unary op a) tis (ExprForm.unary level h _ e a op ha _ lis his refl eis x.read) (kept-mark (unary_mark op) x.kept)
  form-again (ExprForm.sizeof_expression level h ts e a ha ats lis his tis eis ra) =
      let x = expr-again ra unary_level (omega arith) in
      compound (ap printed_expr eis ∙ Printed.expr-SizeofExpr a) tis (ExprForm.sizeof_expression level h _ e a ha _ lis his refl eis x.read) (kept-word word.Sizeof x.kept)
  form-again (ExprForm.sizeof_type level h ts e t ht tts lis his tis eis rt) =
      let x = type_word-again rt in
      compound (ap printed_expr eis ∙ Printed.expr-SizeofType t) tis (ExprForm.sizeof_type level h _ e t ht _ lis his refl eis x.read) (kept-word word.Sizeof (kept-wrapped 1 1 x.kept))
  form-again (ExprForm.index level h ts e a i ha hi ats its lis his tis eis ra ri) =
      let x = expr-again ra postfix_level (omega arith) in
      let y = expr-again ri assign_level (omega arith) in
      compound (ap printed_expr eis ∙ Printed.expr-Index a i) tis (ExprForm.index level h _ e a i ha hi _ _ lis his refl eis x.read y.read) (kept-append (kept-append x.kept (kept-mark mark.LeftBracket y.kept)) (kept-mark mark.RightBracket kept-none))
  form-again (ExprForm.call level h ts e f arguments hf ha fs ats lis his tis eis rf ra) =
      let x = expr-again rf postfix_level (omega arith) in
      let y = arguments-again ra in
      compound (ap printed_expr eis ∙ Printed.expr-Call f arguments) tis (ExprForm.call level h _ e f arguments hf ha _ _ lis his refl eis x.read y.read) (kept-append x.kept (kept-wrapped 1 1 y.kept))
  form-again (ExprForm.member level h ts e a x ha ats lis his free tis eis ra) =
      let y = expr-again ra postfix_level (omega arith) in
      compound (ap printed_expr eis ∙ Printed.expr-Member a x) tis (ExprForm.member level h _ e a x ha _ lis his free refl eis y.read) (kept-append y.kept (kept-mark mark.Dot (kept-token (Name x) kept-none)))
  form-again (ExprForm.arrow level h ts e a x ha ats lis his free tis eis ra) =
      let y = expr-again ra postfix_level (omega arith) in
      compound (ap printed_expr eis ∙ Printed.expr-Arrow a x) tis (ExprForm.arrow level h _ e a x ha _ lis his free refl eis y.read) (kept-append y.kept (kept-mark mark.Arrow (kept-token (Name x) kept-none)))
  form-again (ExprForm.post_increment level h ts e a ha ats lis his tis eis ra) =
      let x = expr-again ra postfix_level (omega arith) in
      compound (ap printed_expr eis ∙ Printed.expr-PostIncrement a) tis (ExprForm.post_increment level h _ e a ha _ lis his refl eis x.read) (kept-append x.kept (kept-mark mark.Increment kept-none))
  form-again (ExprForm.post_decrement level h ts e a ha ats lis his tis eis ra) =
      let x = expr-again ra postfix_level (omega arith) in
      compound (ap printed_expr eis ∙ Printed.expr-PostDecrement a) tis (ExprForm.post_decrement level h _ e a ha _ lis his refl eis x.read) (kept-append x.kept (kept-mark mark.Decrement kept-none))
  form-again (ExprForm.identifier level h ts e x lis his free tis eis) = alone (ap printed_expr eis ∙ Printed.expr-Identifier x) tis (ExprForm.identifier primary_level h _ e x refl his free refl eis)
  form-again (ExprForm.number level h ts e n lis his tis eis) = alone (ap printed_expr eis ∙ Printed.expr-Number n) tis (ExprForm.number primary_level h _ e n refl his refl eis)
  form-again (ExprForm.text level h ts e bytes lis his tis eis) = alone (ap printed_expr eis ∙ Printed.expr-Text bytes) tis (ExprForm.text primary_level h _ e bytes refl his refl eis)

  pub arguments-again : {names : List (List ℕ)} {h : ℕ} {ts : Kinds} {es : List Expr} → ArgumentsRead names h ts es → Reprinted (λ us. ArgumentsRead names h us es) ts (with_commas (map printed_expr es))
  arguments-again (ArgumentsRead.no_argument h ts es his tis eis) =
      let is = ap (λ l. with_commas (map printed_expr l)) eis in record { read = ArgumentsRead.no_argument h _ es his is eis; kept = kept-to is kept-none }
  arguments-again (ArgumentsRead.some_arguments h ts es r) =
      let a = argument_list-again r in record { read = ArgumentsRead.some_arguments h _ es a.read; kept = a.kept }

  pub argument_list-again : {names : List (List ℕ)} {h : ℕ} {ts : Kinds} {es : List Expr} → ArgumentListReads names h ts es → Listed (λ us. ArgumentListReads names h us es) ts (map printed_expr es)
  argument_list-again (ArgumentListReads.one_argument h ts es e eis r) =
      let a = expr-again r assign_level (omega arith) in listed-one printed_expr eis (record { read = ArgumentListReads.one_argument h _ es e eis a.read; kept = a.kept })
  argument_list-again (ArgumentListReads.more_arguments h ts es e others he ho ets os his tis eis re ro) =
      let a = expr-again re assign_level (omega arith) in
      let b = argument_list-again ro in
      listed-more printed_expr eis tis a.kept b (ArgumentListReads.more_arguments h _ es e others he ho _ _ his refl eis a.read b.read)
