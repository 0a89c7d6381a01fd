-- The walks of specs, declarators and type words find what meets its rows, where the walks of their parts do.
use Rattle.std.proofs.Common.{◌≡◌, ℕ, Bool, true, false, inr, List, [], ◌∷◌, ◌++◌, ◌&&◌, length, nat_le, map, Option, Some, None, slice_get, Ok, Err, refl, ap, sym, subst}
use Rattle.std.specs.List.{AllByRecursion}
use Rattle.c_layers.specs.declared.layer.Layer.{Layer}
use Rattle.c_layers.specs.declared.layer.Parameter.{Parameter}
use Rattle.c_layers.specs.Shapes.{adjusted, results_fit, shaped, whole_of}
use Rattle.c_tree.specs.declared.expression.AbstractDeclarator.{roll-AbstractDeclarator}
use Rattle.c_tree.specs.declared.expression.Declarator.{roll-Declarator}
use Rattle.c_tree.specs.declared.expression.Direct.{roll-Direct}
use Rattle.c_tree.specs.declared.expression.Direct.TheOpen.{AbstractDeclarator-F, Declarator-F, Direct-F, MemberDecl-F, Param-F, Params-F, Spec-F, Suffix-F, TypeWord-F}
use Rattle.c_tree.specs.declared.expression.MemberDecl.{roll-MemberDecl}
use Rattle.c_tree.specs.declared.expression.Param.{roll-Param}
use Rattle.c_tree.specs.declared.expression.Params.{roll-Params}
use Rattle.c_tree.specs.declared.expression.Spec.{map-Spec, roll-Spec}
use Rattle.c_tree.specs.declared.expression.Suffix.{roll-Suffix}
use Rattle.c_tree.specs.declared.expression.TypeWord.{roll-TypeWord}
use Rattle.c_types.specs.declared.structs.Member.{Member}
use Rattle.c_types.specs.declared.ty.Ty.{Ty}
use Rattle.c_types.specs.Kinds.{is_scalar}
use Rattle.c_types.specs.Sound.{is_member_type}
use Rattle.c_types.specs.Theorems.{TablesGrow, UnitsStay}
use Rattle.c_typed.specs.declared.entity.Constant.{Constant}
use Rattle.c_typed.specs.declared.entity.Constant.TheVariants as constant
use Rattle.c_typed.specs.declared.entity.Entity.TheVariants as entity
use Rattle.c_typed.specs.declared.expression.TypedAbstractDeclarator.{TypedAbstractDeclarator, roll-TypedAbstractDeclarator}
use Rattle.c_typed.specs.declared.expression.TypedDirect.{TypedDirect}
use Rattle.c_typed.specs.declared.expression.TypedDeclarator.{roll-TypedDeclarator}
use Rattle.c_typed.specs.declared.expression.TypedMemberDecl.{roll-TypedMemberDecl}
use Rattle.c_typed.specs.declared.expression.TypedParam.{TypedParam}
use Rattle.c_typed.specs.declared.expression.TypedParams.{TypedParams}
use Rattle.c_typed.specs.declared.expression.TypedParams.TheVariants as params
use Rattle.c_typed.specs.declared.expression.TypedTypeWord.{TypedTypeWord}
use Rattle.c_typed.specs.declared.expression.TypedSpec.{TypedSpec}
use Rattle.c_typed.specs.declared.expression.TypedSpec.TheVariants as spec
use Rattle.c_typed.specs.declared.expression.TypedSuffix.{TypedSuffix}
use Rattle.c_tree.specs.Fold.{Node, Plain}
use Rattle.c_scope.specs.declared.rule.Rule.{Rule}
use Rattle.c_scope.specs.declared.rule.Rule.TheVariants as broken
use Rattle.c_scope.specs.declared.scopes.Binding.{Binding}
use Rattle.c_scope.specs.declared.scopes.Meaning.{Meaning}
use Rattle.c_scope.specs.declared.scopes.Meaning.TheVariants as means
use Rattle.c_scope.specs.declared.world.World.{World}
use Rattle.c_scope.specs.BuiltIns.{Name}
use Rattle.c_scope.specs.Declarations.{bind_parameter, is_new_member, is_undefined, may_be_parameter, member_rules, member_type, most_parameters, parameter, word_type}
use Rattle.c_scope.specs.Scopes.{bind, bound_in, enter, leave, meaning_of, outer, tag, within}
use Rattle.c_scope.specs.Walk.{Outcome, Walk, ◌>>=◌, ◌>>◌, and_then, each_pair, maybe, pure, rule, world}
use Rattle.c_rules.specs.declared.place.Place.TheVariants.{Value}
use Rattle.c_operators.specs.Operators.{constant_of}
use Rattle.c_declarator_rules.specs.declared.declarators.LayeredDeclarator.{LayeredDeclarator}
use Rattle.c_declarator_rules.specs.Rules.{body_tag, constant_bound, is_bound, named_type, one_member, tree_inside, type_name}
use Rattle.c_expr_typing.specs.Trees.{Found, OfMember, member_declarators, members, spec_step, walked}
use Rattle.c_typed_rows.specs.Contexts.{Context, global_type}
use Rattle.c_typed_rows.specs.Expressions.{IsTypedDeclared, IsTypedSpec}
use Rattle.c_typing_laws.specs.Worlds.{Below, MeaningFits, ScopesFit, local_types}
use Rattle.c_typing_laws.specs.inner.Goes.{Goes, Relation, Sound, after, ends, finds, never, ruled}
use Rattle.c_typing_laws.specs.inner.TypedTrees.{IsTypedAbstract, IsTypedDeclarator, IsTypedDirect, IsTypedMember, IsTypedParam, IsTypedParams, IsTypedSuffix, IsTypedTypeWord}
use Rattle.c_typing_laws.specs.inner.Yields.{map_twice}
use Rattle.c_typing_laws.proofs.KeptNodes as kept
use Rattle.c_typing_laws.proofs.MetNodes as met
use Rattle.c_typing_laws.proofs.MetNodes.{Met, MetAbstractDeclarator, MetDeclarator, MetMemberDecl, MetParam, MetSuffix}
use Rattle.c_typing_laws.proofs.RulesMeetRows.{has_constant}
use Rattle.c_typing_laws.proofs.TypedParts as parts
use Rattle.c_typing_laws.proofs.WorldSteps.{IsInner, IsQuiet, below-scopes, define-goes, defining, extends-same, inner, quiet, quiet-is_defining, quiet-is_inner, sound-quiet, tag-goes}

-- ---- lists of what holds

module _ {A : Type 0} (Q : A → Type 0) where
  all_held : (xs : List A) → AllByRecursion Q xs → List ((x : A) × Q x)
  all_held [] hs = []
  all_held (x ∷ xs) hs = (x, hs.0) ∷ all_held xs hs.1

  held-same : (xs : List A) (hs : AllByRecursion Q xs) → map (λ h. h.0) (all_held xs hs) ≡ xs
  unfolding all_held
  held-same [] hs = refl
  held-same (x ∷ xs) hs = ap (λ ys. x ∷ ys) (held-same xs hs.1)

  -- what is made of a list with what holds of each
  of_held : (P : List A → Type 0) → ((hs : List ((x : A) × Q x)) → P (map (λ h. h.0) hs)) → (xs : List A) → AllByRecursion Q xs → P xs
  of_held P make xs hs = subst P (held-same xs hs) (make (all_held xs hs))

first_of : (a b : Bool) → (a && b) ≡ true → a ≡ true
first_of true b is = refl
first_of false b is = cc

-- where no body may stand, the tag of one is refused
untagged : (o : Outcome (ℕ × World)) {r : ℕ × World} → and_then o (λ n. world >>= (λ w. rule broken.Tag (false && is_undefined w.structs n) >> pure n)) ≡ Ok r → ⊥
untagged (Ok a) is = cc
untagged (Err e) is = cc

-- ---- scopes

pub binding-added : (P : Binding → Type 0) (bs : List Binding) (b : Binding) → AllByRecursion P bs → P b → AllByRecursion P (bs ++ b ∷ [])
binding-added P [] b hs h = (h, tt)
binding-added P (c ∷ bs) b hs h = (hs.0, binding-added P bs b hs.1 h)

pub bound-fits : (gs ls : List Ty) (ss : List (List Binding)) (x : Name) (m : Meaning) → ScopesFit gs ls ss → MeaningFits gs ls m → ScopesFit gs ls (bound_in ss x m)
bound-fits gs ls [] x m fit h = ((h, tt), tt)
bound-fits gs ls (s ∷ ss) x m fit h = (binding-added (λ b. MeaningFits gs ls b.meaning) s (record { name = x; meaning = m }) fit.0 h, fit.1)

pub outer-bound : (ss : List (List Binding)) (x : Name) (m : Meaning) → outer (bound_in ss x m) ≡ outer ss
outer-bound [] x m = refl
outer-bound (s ∷ ss) x m = refl

module _ (stay : UnitsStay) (grow : TablesGrow) (k : Context) (gs : List Ty) (ahead : (n : ℕ) (t : Ty) → slice_get gs n ≡ Some t → global_type k n ≡ Some t) where
  quietly : {A : Type 0} {Q : A → Type 0} {w : World} (o : Outcome (A × World)) → Goes k gs quiet w o Q → Goes k gs inner w o Q
  quietly {A} {Q} {w} o goes = record { found = λ r is sound. let h = goes.found r is sound in (quiet-is_inner w r.1 h.0, h.1, h.2) }

  -- a walk in a scope of its own leaves the scopes as they are
  closed : {A : Type 0} {Q : A → Type 0} (w : World) (o : Outcome (A × World)) → Goes k gs inner (record w { scopes = [] ∷ w.scopes }) o Q
      → Goes k gs quiet w (and_then o (λ x v. Ok (x, record v { scopes = outer v.scopes }))) Q
  closed {A} {Q} w (Ok a) goes = record {
    found = λ r is sound.
        let h = goes.found a refl (tt, sound) in
        let end : World = record a.1 { scopes = outer a.1.scopes } in
        let q : IsQuiet w end = record { scopes = h.0.scopes; bodies = h.0.bodies; steady = record { locals = h.0.steady.locals; globals = h.0.steady.globals; defined = h.0.steady.defined; grown = h.0.steady.grown } } in
        let same : (a.0, end) ≡ r = cc in
        subst (λ (s : A × World). IsQuiet w s.1 × Sound k gs s.1 × (Below k s.1 → Below k w × Q s.0)) same (
          q,
          sound-quiet grow k gs w end q sound,
          λ below.
              let n = h.2 (below-scopes grow k gs a.1 (outer a.1.scopes) below) in (below-scopes grow k gs w ([] ∷ w.scopes) n.0, n.1),
        );
  }
  closed w (Err e) goes = never k gs

  within-goes : {A : Type 0} {Q : A → Type 0} (p : Walk A) (w : World) → ((v : World) → Goes k gs inner v (p v) Q) → Goes k gs quiet w (within p w) Q
  unfolding enter leave
  within-goes p w goes = closed w (p (record w { scopes = [] ∷ w.scopes })) (goes (record w { scopes = [] ∷ w.scopes }))

  -- each in order, where each finds two things
  each_pair-goes : {A B H : Type 0} (R : Relation) (Q : A → Type 0) (p : H → Walk (A × B)) → ((h : H) (w : World) → Goes k gs R w (p h w) (λ x. Q x.0))
      → (hs : List H) (w : World) → Goes k gs R w (each_pair (map p hs) w) (λ xs. AllByRecursion Q xs.0)
  each_pair-goes R Q p goes [] w = ends k gs (λ below. tt)
  each_pair-goes R Q p goes (h ∷ hs) w =
      after k gs (p h w) _ (goes h w) (λ x v q.
      after k gs (each_pair (map p hs) v) _ (each_pair-goes R Q p goes hs v) (λ xs u r.
      ends k gs (λ below hxs hx. (hx, hxs))))

  -- ---- suffixes

  bound-goes : (c : Constant) (w : World) → Goes k gs quiet w (constant_bound c w) (λ n. has_constant c ≡ true)
  bound-goes (constant.Value v) w = ruled k gs broken.Unsized (is_bound v) _ (λ holds. ends k gs (λ below. refl))
  bound-goes constant.Other w = never k gs
  bound-goes constant.Divides w = never k gs

  pub suffix-met : (y : Met stay grow k gs ahead Suffix-F) → met.MeetsSuffix stay grow k gs ahead (roll-Suffix (met.plain_suffix stay grow k gs ahead y))
  suffix-met (Suffix-F.Array None) = λ w.
      subst (λ (p : Walk (TypedSuffix × Layer)). Goes k gs quiet w (p w) (λ x. IsTypedSuffix k x.0)) (sym (kept.walked-suffix (Suffix-F.Array None))) (ends k gs (λ below. parts.suffix-open k))
  suffix-met (Suffix-F.Array (Some e)) = λ w.
      subst (λ (p : Walk (TypedSuffix × Layer)). Goes k gs quiet w (p w) (λ x. IsTypedSuffix k x.0)) (sym (kept.walked-suffix (Suffix-F.Array (Some e.0))))
      (after k gs _ _ (e.1 w.scopes (local_types w) Value w (record { scopes = refl; locals = refl })) (λ x v q.
      after k gs _ _ (bound-goes (constant_of x) v) (λ n u r.
      ends k gs (λ below is hx. parts.suffix-bound k x (hx.typed (inr is))))))
  suffix-met (Suffix-F.Function p) = λ w.
      subst (λ (q : Walk (TypedSuffix × Layer)). Goes k gs quiet w (q w) (λ x. IsTypedSuffix k x.0)) (sym (kept.walked-suffix (Suffix-F.Function p.0)))
      (after k gs _ _ (p.1 w) (λ x v q. ends k gs (λ below hx. parts.suffix-Function k x.0 hx)))

  suffixes-go : (hs : List (MetSuffix stay grow k gs ahead)) (w : World)
      → Goes k gs quiet w (each_pair (map walked.suffix (map (λ (h : MetSuffix stay grow k gs ahead). h.0) hs)) w) (λ xs. AllByRecursion (IsTypedSuffix k) xs.0)
  suffixes-go hs w =
      subst (λ (ps : List (Walk (TypedSuffix × Layer))). Goes k gs quiet w (each_pair ps w) (λ xs. AllByRecursion (IsTypedSuffix k) xs.0))
      (sym (map_twice walked.suffix (λ (h : MetSuffix stay grow k gs ahead). h.0) hs))
      (each_pair-goes quiet (IsTypedSuffix k) (λ h. walked.suffix h.0) (λ h v. h.1 v) hs w)

  -- ---- declarators

  pub direct-met : (y : Met stay grow k gs ahead Direct-F) → met.MeetsDirect stay grow k gs ahead (roll-Direct (met.plain_direct stay grow k gs ahead y))
  direct-met (Direct-F.Name x) = λ w.
      subst (λ (p : Walk (TypedDirect × Name × List Layer)). Goes k gs quiet w (p w) (λ x. IsTypedDirect k x.0)) (sym (kept.walked-direct (Direct-F.Name x))) (ends k gs (λ below. parts.direct-Name k x))
  direct-met (Direct-F.Bracketed d) = λ w.
      subst (λ (p : Walk (TypedDirect × Name × List Layer)). Goes k gs quiet w (p w) (λ x. IsTypedDirect k x.0)) (sym (kept.walked-direct (Direct-F.Bracketed d.0)))
      (after k gs _ _ (d.1 w) (λ x v q. ends k gs (λ below hx. parts.direct-Bracketed k x.tree hx)))

  declarator-made : (n : ℕ) (d : TypedDirect) (xs : List TypedSuffix) → IsTypedDirect k d → AllByRecursion (IsTypedSuffix k) xs
      → IsTypedDeclarator k (roll-TypedDeclarator (record { stars = n; direct = d; suffixes = xs }))
  declarator-made n d xs hd hs = of_held (IsTypedSuffix k) (λ ys. IsTypedDeclarator k (roll-TypedDeclarator (record { stars = n; direct = d; suffixes = ys }))) (parts.declarator-made k n d hd) xs hs

  pub declarator-met : (y : Met stay grow k gs ahead Declarator-F) → met.MeetsDeclarator stay grow k gs ahead (roll-Declarator (met.plain_declarator stay grow k gs ahead y))
  declarator-met y = λ w.
      subst (λ (p : Walk LayeredDeclarator). Goes k gs quiet w (p w) (λ x. IsTypedDeclarator k x.tree)) (sym (kept.walked-declarator (met.plain_declarator stay grow k gs ahead y)))
      (after k gs _ _ (y.direct.1 w) (λ x v q.
      after k gs _ _ (suffixes-go y.suffixes v) (λ ss u r.
      ends k gs (λ below hss hx. declarator-made y.stars x.0 ss.0 hx hss))))

  abbrev held_inside : Option TypedAbstractDeclarator → Type 0
  held_inside None = Unit {0}
  held_inside (Some a) = IsTypedAbstract k a

  -- what stands in the brackets, if something does
  inside-goes : (a : MetAbstractDeclarator stay grow k gs ahead) (w : World) → Goes k gs quiet w (maybe (Some (walked.abstract a.0)) w) (λ o. held_inside (tree_inside o))
  inside-goes a w = after k gs _ _ (a.1 w) (λ x v q. ends k gs (λ below hx. hx))

  abstract-made : (n : ℕ) (o : Option TypedAbstractDeclarator) (xs : List TypedSuffix) → held_inside o → AllByRecursion (IsTypedSuffix k) xs
      → IsTypedAbstract k (roll-TypedAbstractDeclarator (record { stars = n; bracketed = o; suffixes = xs }))
  abstract-made n None xs ho hs = of_held (IsTypedSuffix k) (λ ys. IsTypedAbstract k (roll-TypedAbstractDeclarator (record { stars = n; bracketed = None; suffixes = ys }))) (parts.abstract-bare k n) xs hs
  abstract-made n (Some a) xs ho hs = of_held (IsTypedSuffix k) (λ ys. IsTypedAbstract k (roll-TypedAbstractDeclarator (record { stars = n; bracketed = Some a; suffixes = ys }))) (parts.abstract-bracketed k n a ho) xs hs

  abstract-bare : (n : ℕ) (hs : List (MetSuffix stay grow k gs ahead)) (w : World)
      → Goes k gs quiet w (walked.abstract (roll-AbstractDeclarator (record { stars = n; bracketed = None; suffixes = map (λ (h : MetSuffix stay grow k gs ahead). h.0) hs })) w) (λ x. IsTypedAbstract k x.0)
  abstract-bare n hs w =
      subst (λ (p : Walk (TypedAbstractDeclarator × List Layer)). Goes k gs quiet w (p w) (λ x. IsTypedAbstract k x.0)) (sym (kept.walked-abstract (record { stars = n; bracketed = None; suffixes = map (λ (h : MetSuffix stay grow k gs ahead). h.0) hs })))
      (after k gs _ _ (suffixes-go hs w) (λ ss u r. ends k gs (λ below hss. abstract-made n None ss.0 tt hss)))

  abstract-bracketed : (n : ℕ) (a : MetAbstractDeclarator stay grow k gs ahead) (hs : List (MetSuffix stay grow k gs ahead)) (w : World)
      → Goes k gs quiet w (walked.abstract (roll-AbstractDeclarator (record { stars = n; bracketed = Some a.0; suffixes = map (λ (h : MetSuffix stay grow k gs ahead). h.0) hs })) w) (λ x. IsTypedAbstract k x.0)
  abstract-bracketed n a hs w =
      subst (λ (p : Walk (TypedAbstractDeclarator × List Layer)). Goes k gs quiet w (p w) (λ x. IsTypedAbstract k x.0)) (sym (kept.walked-abstract (record { stars = n; bracketed = Some a.0; suffixes = map (λ (h : MetSuffix stay grow k gs ahead). h.0) hs })))
      (after k gs (maybe (Some (walked.abstract a.0)) w) _ (inside-goes a w) (λ o v q.
      after k gs _ _ (suffixes-go hs v) (λ ss u r.
      ends k gs (λ below hss ho. abstract-made n (tree_inside o) ss.0 ho hss))))

  abstract-by : (n : ℕ) (o : Option (MetAbstractDeclarator stay grow k gs ahead)) (hs : List (MetSuffix stay grow k gs ahead))
      → met.MeetsAbstractDeclarator stay grow k gs ahead (roll-AbstractDeclarator (met.plain_abstract stay grow k gs ahead (record { stars = n; bracketed = o; suffixes = hs })))
  abstract-by n None hs = abstract-bare n hs
  abstract-by n (Some a) hs = abstract-bracketed n a hs

  pub abstract-met : (y : Met stay grow k gs ahead AbstractDeclarator-F) → met.MeetsAbstractDeclarator stay grow k gs ahead (roll-AbstractDeclarator (met.plain_abstract stay grow k gs ahead y))
  abstract-met y = abstract-by y.stars y.bracketed y.suffixes

  word_type-goes : (base : Ty) (ls : List Layer) (w : World) → Goes k gs quiet w (word_type base ls w) (λ t. Unit {0})
  unfolding word_type
  word_type-goes base ls w = finds k gs broken.Unsized (whole_of (shaped w.structs base ls)) _ (λ t is. ruled k gs broken.Form (results_fit w.structs base ls) _ (λ holds. ends k gs (λ below. tt)))

  pub type_word-met : (y : Met stay grow k gs ahead TypeWord-F) → met.MeetsTypeWord stay grow k gs ahead (roll-TypeWord (met.plain_type_word stay grow k gs ahead y))
  type_word-met y = λ w.
      subst (λ (p : Walk TypedTypeWord). Goes k gs quiet w (p w) (IsTypedTypeWord k)) (sym (kept.walked-type_word (met.plain_type_word stay grow k gs ahead y)))
      (after k gs _ _ (y.spec.1.0 w) (λ base v q.
      after k gs _ _ (y.declarator.1 v) (λ x u r.
      after k gs _ _ (word_type-goes base.1 x.1 u) (λ t s m.
      ends k gs (λ below any hx hb. parts.type_word-made k base.0 x.0 t hb hx)))))

  -- ---- parameters

  bind-goes : (x : Name) (t : Ty) (w : World) → Goes k gs inner w (bind x (means.Variable entity.Parameter t) w) (λ u. Unit {0})
  unfolding bind
  bind-goes x t w = record {
    found = λ r is sound.
        let end : World = record w { scopes = bound_in w.scopes x (means.Variable entity.Parameter t) } in
        let same : (tt, end) ≡ r = cc in
        subst (λ (s : Unit {0} × World). IsInner w s.1 × Sound k gs s.1 × (Below k s.1 → Below k w × Unit {0})) same (
          record { scopes = outer-bound w.scopes x (means.Variable entity.Parameter t); bodies = λ s. refl; steady = record { locals = refl; globals = refl; defined = λ y. refl; grown = extends-same w.structs } },
          bound-fits gs (local_types w) w.scopes x (means.Variable entity.Parameter t) sound tt,
          λ below. (below-scopes grow k gs w (bound_in w.scopes x (means.Variable entity.Parameter t)) below, tt),
        );
  }

  bind_parameter-goes : (o : Option Name) (t : Ty) (w : World) → Goes k gs inner w (bind_parameter o t w) (λ u. Unit {0})
  bind_parameter-goes None t w = ends k gs (λ below. tt)
  bind_parameter-goes (Some x) t w = bind-goes x t w

  parameter-goes : (o : Option Name) (base : Ty) (ls : List Layer) (w : World) → Goes k gs inner w (parameter o base ls w) (λ t. Unit {0})
  unfolding parameter
  parameter-goes o base ls w = ruled k gs broken.Redeclared (may_be_parameter w o) _ (λ free. finds k gs broken.Unsized (whole_of (adjusted (shaped w.structs base ls))) _ (λ t is. ruled k gs broken.Form (results_fit w.structs base ls && is_scalar t) _ (λ fits.
      after k gs _ _ (bind_parameter-goes o t w) (λ u v q. ends k gs (λ below any. tt)))))

  pub param-met : (y : Met stay grow k gs ahead Param-F) → met.MeetsParam stay grow k gs ahead (roll-Param (met.plain_param stay grow k gs ahead y))
  param-met (Param-F.Named s d) = λ w.
      subst (λ (p : Walk (TypedParam × Parameter)). Goes k gs inner w (p w) (λ x. IsTypedParam k x.0)) (sym (kept.walked-param (Param-F.Named s.0 d.0)))
      (after k gs _ _ (quietly _ (s.1.0 w)) (λ base v q.
      after k gs _ _ (quietly _ (d.1 v)) (λ x u r.
      after k gs _ _ (parameter-goes (Some x.name) base.1 x.layers u) (λ t m n.
      ends k gs (λ below any hx hb. parts.param-Named k base.0 _ hb (parts.declared-made k x.tree t hx))))))
  param-met (Param-F.Unnamed s a) = λ w.
      subst (λ (p : Walk (TypedParam × Parameter)). Goes k gs inner w (p w) (λ x. IsTypedParam k x.0)) (sym (kept.walked-param (Param-F.Unnamed s.0 a.0)))
      (after k gs _ _ (quietly _ (s.1.0 w)) (λ base v q.
      after k gs _ _ (quietly _ (a.1 v)) (λ x u r.
      after k gs _ _ (parameter-goes None base.1 x.1 u) (λ t m n.
      ends k gs (λ below any hx hb. parts.param-Unnamed k base.0 x.0 t hb hx)))))

  params-go : (hs : List (MetParam stay grow k gs ahead)) (w : World)
      → Goes k gs inner w (each_pair (map walked.param (map (λ (h : MetParam stay grow k gs ahead). h.0) hs)) w) (λ xs. AllByRecursion (IsTypedParam k) xs.0)
  params-go hs w =
      subst (λ (ps : List (Walk (TypedParam × Parameter))). Goes k gs inner w (each_pair ps w) (λ xs. AllByRecursion (IsTypedParam k) xs.0))
      (sym (map_twice walked.param (λ (h : MetParam stay grow k gs ahead). h.0) hs))
      (each_pair-goes inner (IsTypedParam k) (λ h. walked.param h.0) (λ h v. h.1 v) hs w)

  pub params-met : (y : Met stay grow k gs ahead Params-F) → met.MeetsParams stay grow k gs ahead (roll-Params (met.plain_params stay grow k gs ahead y))
  params-met Params-F.Nothing = λ w.
      subst (λ (p : Walk (TypedParams × List Parameter)). Goes k gs quiet w (p w) (λ x. IsTypedParams k x.0)) (sym (kept.walked-params Params-F.Nothing)) (ends k gs (λ below. parts.params-Nothing k))
  params-met Params-F.VoidAlone = λ w.
      subst (λ (p : Walk (TypedParams × List Parameter)). Goes k gs quiet w (p w) (λ x. IsTypedParams k x.0)) (sym (kept.walked-params Params-F.VoidAlone)) (ends k gs (λ below. parts.params-VoidAlone k))
  params-met (Params-F.List hs) = λ w.
      subst (λ (p : Walk (TypedParams × List Parameter)). Goes k gs quiet w (p w) (λ x. IsTypedParams k x.0)) (sym (kept.walked-params (Params-F.List (map (λ (h : MetParam stay grow k gs ahead). h.0) hs))))
      (after k gs _ _ (within-goes (each_pair (map walked.param (map (λ (h : MetParam stay grow k gs ahead). h.0) hs))) w (params-go hs)) (λ ps v q.
      ruled k gs broken.Form (nat_le (length ps.1) most_parameters) _ (λ few. ends k gs (λ below hps. of_held (IsTypedParam k) (λ ys. IsTypedParams k (params.List ys)) (parts.params-List k) ps.0 hps))))

  -- ---- structs

  rule-goes : {w : World} (r : Rule) (b : Bool) → Goes k gs quiet w (rule r b w) (λ u. Unit {0})
  rule-goes r true = ends k gs (λ below. tt)
  rule-goes r false = never k gs

  member_rules-go : (before : List Member) (x : Name) (t : Ty) (fits : Bool) (w : World) → Goes k gs quiet w (member_rules before x t fits w) (λ u. Unit {0})
  unfolding member_rules
  member_rules-go before x t fits w = ruled k gs broken.Unsized (is_member_type w.structs t) _ (λ one. ruled k gs broken.Tag (is_new_member before x) _ (λ two. rule-goes broken.Form fits))

  member_type-goes : (before : List Member) (x : Name) (base : Ty) (ls : List Layer) (w : World) → Goes k gs quiet w (member_type before x base ls w) (λ t. Unit {0})
  unfolding member_type
  member_type-goes before x base ls w = finds k gs broken.Unsized (whole_of (shaped w.structs base ls)) _ (λ t is.
      after k gs _ _ (member_rules-go before x t (results_fit w.structs base ls) w) (λ u v q. ends k gs (λ below any. tt)))

  one-goes : (base : Ty) (x : LayeredDeclarator) (before : List Member) (w : World) → Goes k gs quiet w (one_member base x before w) (λ m. IsTypedDeclarator k x.tree → IsTypedDeclared k m.0)
  one-goes base x before w = after k gs _ _ (member_type-goes before x.name base x.layers w) (λ t v q. ends k gs (λ below any hx. parts.declared-made k x.tree t hx))

  declarators-go : (base : Ty) (hs : List (MetDeclarator stay grow k gs ahead)) (before : List Member) (w : World)
      → Goes k gs quiet w (member_declarators base (map walked.declarator (map (λ (h : MetDeclarator stay grow k gs ahead). h.0) hs)) before w) (λ r. AllByRecursion (IsTypedDeclared k) r.0)
  declarators-go base [] before w = ends k gs (λ below. tt)
  declarators-go base (h ∷ hs) before w =
      after k gs _ _ (h.1 w) (λ x v q.
      after k gs _ _ (one-goes base x before v) (λ m u r.
      after k gs _ _ (declarators-go base hs m.1 u) (λ rest s n.
      ends k gs (λ below hrest hm hx. (hm hx, hrest)))))

  pub member-met : (y : Met stay grow k gs ahead MemberDecl-F) → met.MeetsMemberDecl stay grow k gs ahead (roll-MemberDecl (met.plain_member stay grow k gs ahead y))
  member-met y = λ before w.
      subst (λ (p : OfMember). Goes k gs quiet w (p before w) (λ x. IsTypedMember k x.0)) (sym (kept.walked-member (met.plain_member stay grow k gs ahead y)))
      (after k gs _ _ (y.spec.1.0 w) (λ base v q.
      after k gs _ _ (declarators-go base.1 y.declarators before v) (λ ds u r.
      ends k gs (λ below hds hb. of_held (IsTypedDeclared k) (λ ys. IsTypedMember k (roll-TypedMemberDecl (record { spec = base.0; declarators = ys }))) (parts.member-made k base.0 hb) ds.0 hds))))

  members-go : (hs : List (MetMemberDecl stay grow k gs ahead)) (before : List Member) (w : World)
      → Goes k gs quiet w (members (map walked.member (map (λ (h : MetMemberDecl stay grow k gs ahead). h.0) hs)) before w) (λ r. AllByRecursion (IsTypedMember k) r.0)
  members-go [] before w = ends k gs (λ below. tt)
  members-go (h ∷ hs) before w =
      after k gs _ _ (h.1 before w) (λ x v q.
      after k gs _ _ (members-go hs x.1 v) (λ rest u r.
      ends k gs (λ below hrest hx. (hx, hrest))))

  body_tag-goes : (x : Name) (bodies : Bool) (w : World) → Goes k gs quiet w (body_tag x bodies w) (λ n. bodies ≡ true)
  body_tag-goes x bodies w = after k gs _ _ (tag-goes grow k gs x w) (λ n v q. ruled k gs broken.Tag (bodies && is_undefined v.structs n) _ (λ holds. ends k gs (λ below any. first_of bodies _ holds)))

  abbrev with_parts : Node Plain Spec-F → Node Found Spec-F
  with_parts node = map-Spec _ _ _ _ _ _ _ _ _ _ _ _ _ _ _ _ _ _ _ _
      walked.direct walked.expr walked.param walked.params walked.spec walked.suffix walked.abstract walked.declarator walked.member walked.type_word node

  along : (R : Relation) (node : Node Plain Spec-F) (bodies : Bool) (w : World) → Goes k gs R w (spec_step (with_parts node) bodies w) (λ x. IsTypedSpec k x.0)
      → Goes k gs R w (walked.spec (roll-Spec node) bodies w) (λ x. IsTypedSpec k x.0)
  along R node bodies w goes = subst (λ (p : Bool → Walk (TypedSpec × Ty)). Goes k gs R w (p bodies w) (λ x. IsTypedSpec k x.0)) (sym (kept.walked-spec node)) goes

  defines : {A : Type 0} {Q : A → Type 0} {w : World} (o : Outcome (A × World)) → Goes k gs quiet w o Q → Goes k gs defining w o Q
  defines {A} {Q} {w} o goes = record { found = λ r is sound. let h = goes.found r is sound in (quiet-is_defining w r.1 h.0, h.1, h.2) }

  -- a spec without a body
  bodiless : (node : Node Plain Spec-F) → ((bodies : Bool) (w : World) → Goes k gs quiet w (spec_step (with_parts node) bodies w) (λ x. IsTypedSpec k x.0)) → met.MeetsSpec stay grow k gs ahead (roll-Spec node)
  bodiless node goes = (λ w. along quiet node false w (goes false w), λ w. along defining node true w (defines _ (goes true w)))

  type_name-goes : (x : Name) (w : World) → Goes k gs quiet w (type_name x w) (λ y. IsTypedSpec k y.0)
  type_name-goes x w = finds k gs broken.Undeclared (named_type (meaning_of w.scopes x)) _ (λ t is. ends k gs (λ below. parts.spec-TypeName k x))

  -- no body stands where none may
  no_tag : (x : Name) (w : World) (o : Outcome (ℕ × World)) → body_tag x false w ≡ o → {B : Type 0} (f : ℕ → Walk B) (Q : B → Type 0) → Goes k gs quiet w (and_then o f) Q
  no_tag x w (Err e) is f Q = never k gs
  no_tag x w (Ok r) is f Q = record { found = λ s found sound. absurd (untagged (tag x w) is) }

  pub spec-met : (y : Met stay grow k gs ahead Spec-F) → met.MeetsSpec stay grow k gs ahead (roll-Spec (met.plain_spec stay grow k gs ahead y))
  spec-met Spec-F.Int = bodiless Spec-F.Int (λ bodies w. ends k gs (λ below. parts.spec-Int k))
  spec-met Spec-F.Char = bodiless Spec-F.Char (λ bodies w. ends k gs (λ below. parts.spec-Char k))
  spec-met Spec-F.Void = bodiless Spec-F.Void (λ bodies w. ends k gs (λ below. parts.spec-Void k))
  spec-met (Spec-F.TypeName x) = bodiless (Spec-F.TypeName x) (λ bodies w. type_name-goes x w)
  spec-met (Spec-F.Struct x None) = bodiless (Spec-F.Struct x None) (λ bodies w.
      after k gs _ _ (tag-goes grow k gs x w) (λ n v q. ends k gs (λ below any. parts.spec-tag k x)))
  spec-met (Spec-F.Struct x (Some hs)) = (
    λ w. along quiet (Spec-F.Struct x (Some (map (λ (h : MetMemberDecl stay grow k gs ahead). h.0) hs))) false w (no_tag x w (body_tag x false w) refl _ _),
    λ w. along defining (Spec-F.Struct x (Some (map (λ (h : MetMemberDecl stay grow k gs ahead). h.0) hs))) true w
        (after k gs _ _ (defines _ (body_tag-goes x true w)) (λ n v q.
        after k gs _ _ (defines _ (members-go hs [] v)) (λ body u r.
        after k gs _ _ (define-goes grow k gs n body.1 u) (λ _ s m.
        ends k gs (λ below any hbody any_tag. of_held (IsTypedMember k) (λ ys. IsTypedSpec k (spec.Struct x (Some ys))) (parts.spec-body k x) body.0 hbody))))),
  )
