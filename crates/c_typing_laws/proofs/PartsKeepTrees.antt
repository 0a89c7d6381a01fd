-- The walks of specs, declarators and type words keep them where the walks of their parts do.
use Rattle.std.proofs.Common.{◌≡◌, ◌∙◌, ℕ, Bool, List, [], ◌∷◌, map, Option, Some, None, refl, ap, sym, subst}
use Rattle.std.specs.Option.{option_map}
use Rattle.c_layers.specs.declared.layer.Layer.{Layer}
use Rattle.c_tree.specs.declared.expression.AbstractDeclarator.{AbstractDeclarator, roll-AbstractDeclarator}
use Rattle.c_tree.specs.declared.expression.Declarator.{Declarator, roll-Declarator}
use Rattle.c_tree.specs.declared.expression.Direct.{roll-Direct}
use Rattle.c_tree.specs.declared.expression.Direct.TheOpen.{AbstractDeclarator-F, Declarator-F, Direct-F, MemberDecl-F, Param-F, Params-F, Spec-F, Suffix-F, TypeWord-F}
use Rattle.c_tree.specs.declared.expression.Direct.TheVariants as direct
use Rattle.c_tree.specs.declared.expression.MemberDecl.{roll-MemberDecl}
use Rattle.c_tree.specs.declared.expression.Param.{roll-Param}
use Rattle.c_tree.specs.declared.expression.Param.TheVariants as param
use Rattle.c_tree.specs.declared.expression.Params.{roll-Params}
use Rattle.c_tree.specs.declared.expression.Params.TheVariants as params
use Rattle.c_tree.specs.declared.expression.Spec.{roll-Spec}
use Rattle.c_tree.specs.declared.expression.Spec.TheVariants as spec
use Rattle.c_tree.specs.declared.expression.Suffix.{roll-Suffix}
use Rattle.c_tree.specs.declared.expression.Suffix.TheVariants as suffix
use Rattle.c_tree.specs.declared.expression.TypeWord.{roll-TypeWord}
use Rattle.c_tree.specs.Trees as raw
use Rattle.c_types.specs.declared.structs.Member.{Member}
use Rattle.c_types.specs.declared.ty.Ty.{Ty}
use Rattle.c_typed.specs.declared.expression.TypedAbstractDeclarator.{TypedAbstractDeclarator, roll-TypedAbstractDeclarator}
use Rattle.c_typed.specs.declared.expression.TypedParam.{TypedParam}
use Rattle.c_typed.specs.declared.expression.TypedSuffix.{TypedSuffix}
use Rattle.c_typed.specs.Erased.{erased_declared}
use Rattle.c_layers.specs.declared.layer.Parameter.{Parameter}
use Rattle.c_scope.specs.declared.world.World.{World}
use Rattle.c_scope.specs.Walk.{Walk, each_pair, maybe}
use Rattle.c_rules.specs.declared.place.Place.TheVariants.{Value}
use Rattle.c_declarator_rules.specs.declared.declarators.LayeredDeclarator.{LayeredDeclarator}
use Rattle.c_typing_laws.specs.inner.ErasedTrees.{abstract_tree, declarator_tree, member_tree, param_tree, suffix_tree}
use Rattle.c_declarator_rules.specs.Rules.{one_member, tree_inside}
use Rattle.c_expr_typing.specs.Trees.{OfMember, member_declarators, members, walked}
use Rattle.c_typing_laws.specs.inner.ErasedDeclarators as erased
use Rattle.c_typing_laws.specs.inner.Yields.{Yields, after, at_once, each_pair_yields, inside_scope, map_twice, whatever}
use Rattle.c_typing_laws.proofs.KeptNodes as kept
use Rattle.c_typing_laws.proofs.KeptNodes.{Kept, KeepsAbstractDeclarator, KeepsDeclarator, KeepsDirect, KeepsMemberDecl, KeepsParam, KeepsParams, KeepsSpec, KeepsSuffix, KeepsTypeWord, KeptAbstractDeclarator, KeptDeclarator, KeptMemberDecl, KeptParam, KeptSuffix, bare_abstract, bare_declarator, bare_direct, bare_member, bare_param, bare_params, bare_spec, bare_suffix, bare_type_word}

-- the walk of a node, and the tree that it makes
along : {A T : Type 0} (e : A → T) {p q : Walk A} {t u : T} (w : World) → p ≡ q → t ≡ u → Yields (q w) (λ x. e x ≡ u) → Yields (p w) (λ x. e x ≡ t)
along {A} {T} e {p} {q} {t} {u} w walks trees holds =
    subst (λ (f : Walk A). Yields (f w) (λ x. e x ≡ t)) (sym walks) (subst (λ s. Yields (q w) (λ x. e x ≡ s)) (sym trees) holds)

-- ---- suffixes

pub suffix-kept : (y : Kept Suffix-F) → KeepsSuffix (roll-Suffix (bare_suffix y))
suffix-kept (Suffix-F.Array None) = λ w. along _ w (kept.walked-suffix (Suffix-F.Array None)) (suffix.rolls-Array None) (at_once erased.suffix-open)
suffix-kept (Suffix-F.Array (Some e)) = λ w.
    along _ w (kept.walked-suffix (Suffix-F.Array (Some e.0))) (suffix.rolls-Array (Some e.0))
    (after _ _ (e.1 Value w) (λ x v is.
    whatever _ _ (λ n u.
    at_once (erased.suffix-bound x ∙ ap (λ t. suffix.Array (Some t)) is))))
suffix-kept (Suffix-F.Function p) = λ w.
    along _ w (kept.walked-suffix (Suffix-F.Function p.0)) (suffix.rolls-Function p.0)
    (after _ _ (p.1 w) (λ x v is.
    at_once (erased.suffix-Function x.0 ∙ ap suffix.Function is)))

suffixes-keep : (hs : List KeptSuffix) (w : World)
    → Yields (each_pair (map walked.suffix (map (λ (h : KeptSuffix). h.0) hs)) w) (λ xs. map suffix_tree xs.0 ≡ map (λ (h : KeptSuffix). h.0) hs)
suffixes-keep hs w =
    subst (λ (ps : List (Walk (TypedSuffix × Layer))). Yields (each_pair ps w) (λ xs. map suffix_tree xs.0 ≡ map (λ (h : KeptSuffix). h.0) hs))
    (sym (map_twice walked.suffix (λ (h : KeptSuffix). h.0) hs))
    (each_pair_yields suffix_tree (λ (h : KeptSuffix). h.0) (λ h. walked.suffix h.0) (λ h v. h.1 v) hs w)

-- ---- declarators

pub direct-kept : (y : Kept Direct-F) → KeepsDirect (roll-Direct (bare_direct y))
direct-kept (Direct-F.Name x) = λ w. along _ w (kept.walked-direct (Direct-F.Name x)) (direct.rolls-Name x) (at_once (erased.direct-Name x))
direct-kept (Direct-F.Bracketed d) = λ w.
    along _ w (kept.walked-direct (Direct-F.Bracketed d.0)) (direct.rolls-Bracketed d.0)
    (after _ _ (d.1 w) (λ x v is.
    at_once (erased.direct-Bracketed x.tree ∙ ap direct.Bracketed is)))

pub declarator-kept : (y : Kept Declarator-F) → KeepsDeclarator (roll-Declarator (bare_declarator y))
declarator-kept y = λ w.
    along _ w (kept.walked-declarator (bare_declarator y)) refl
    (after _ _ (y.direct.1 w) (λ x v is.
    after _ _ (suffixes-keep y.suffixes v) (λ ss u also.
    at_once (erased.declarator-made y.stars x.0 ss.0 ∙ (λ i. raw.declarator y.stars (is i) (also i))))))

-- what stands in the brackets, if something does
inside-keeps : (a : KeptAbstractDeclarator) (w : World)
    → Yields (maybe (Some (walked.abstract a.0)) w) (λ o. option_map abstract_tree (tree_inside o) ≡ Some a.0)
inside-keeps a w = after _ _ (a.1 w) (λ x v is. at_once (ap Some is))

bracketed : (n : ℕ) (o : Option TypedAbstractDeclarator) (ss : List TypedSuffix) (a : AbstractDeclarator) → option_map abstract_tree o ≡ Some a
    → abstract_tree (roll-TypedAbstractDeclarator (record { stars = n; bracketed = o; suffixes = ss })) ≡ raw.abstract n (Some a) (map suffix_tree ss)
bracketed n None ss a is = cc
bracketed n (Some x) ss a is = erased.abstract-bracketed n x ss ∙ ap (λ o. raw.abstract n o (map suffix_tree ss)) is

abstract-bare : (n : ℕ) (hs : List KeptSuffix) → KeepsAbstractDeclarator (raw.abstract n None (map (λ (h : KeptSuffix). h.0) hs))
abstract-bare n hs = λ w.
    along _ w (kept.walked-abstract (record { stars = n; bracketed = None; suffixes = map (λ (h : KeptSuffix). h.0) hs })) refl
    (after _ _ (suffixes-keep hs w) (λ ss u also.
    at_once (erased.abstract-bare n ss.0 ∙ ap (raw.abstract n None) also)))

abstract-bracketed : (n : ℕ) (a : KeptAbstractDeclarator) (hs : List KeptSuffix) → KeepsAbstractDeclarator (raw.abstract n (Some a.0) (map (λ (h : KeptSuffix). h.0) hs))
abstract-bracketed n a hs = λ w.
    along _ w (kept.walked-abstract (record { stars = n; bracketed = Some a.0; suffixes = map (λ (h : KeptSuffix). h.0) hs })) refl
    (after (maybe (Some (walked.abstract a.0)) w) _ (inside-keeps a w) (λ o v is.
    after _ _ (suffixes-keep hs v) (λ ss u also.
    at_once (bracketed n (tree_inside o) ss.0 a.0 is ∙ ap (raw.abstract n (Some a.0)) also))))

abstract-by : (n : ℕ) (o : Option KeptAbstractDeclarator) (hs : List KeptSuffix)
    → KeepsAbstractDeclarator (roll-AbstractDeclarator (bare_abstract (record { stars = n; bracketed = o; suffixes = hs })))
abstract-by n None hs = abstract-bare n hs
abstract-by n (Some a) hs = abstract-bracketed n a hs

pub abstract-kept : (y : Kept AbstractDeclarator-F) → KeepsAbstractDeclarator (roll-AbstractDeclarator (bare_abstract y))
abstract-kept y = abstract-by y.stars y.bracketed y.suffixes

pub type_word-kept : (y : Kept TypeWord-F) → KeepsTypeWord (roll-TypeWord (bare_type_word y))
type_word-kept y = λ w.
    along _ w (kept.walked-type_word (bare_type_word y)) refl
    (after _ _ (y.spec.1 _ w) (λ base v is.
    after _ _ (y.declarator.1 v) (λ x u also.
    whatever _ _ (λ t s.
    at_once (erased.type_word-made base.0 x.0 t ∙ (λ i. raw.type_word (is i) (also i)))))))

-- ---- parameters

pub param-kept : (y : Kept Param-F) → KeepsParam (roll-Param (bare_param y))
param-kept (Param-F.Named s d) = λ w.
    along _ w (kept.walked-param (Param-F.Named s.0 d.0)) (param.rolls-Named s.0 d.0)
    (after _ _ (s.1 _ w) (λ base v is.
    after _ _ (d.1 v) (λ x u also.
    whatever _ _ (λ t r.
    at_once (erased.param-Named base.0 _ ∙ (λ i. param.Named (is i) ((erased.declared-made x.tree t ∙ also) i)))))))
param-kept (Param-F.Unnamed s a) = λ w.
    along _ w (kept.walked-param (Param-F.Unnamed s.0 a.0)) (param.rolls-Unnamed s.0 a.0)
    (after _ _ (s.1 _ w) (λ base v is.
    after _ _ (a.1 v) (λ x u also.
    whatever _ _ (λ t r.
    at_once (erased.param-Unnamed base.0 x.0 t ∙ (λ i. param.Unnamed (is i) (also i)))))))

params-keep : (hs : List KeptParam) (w : World)
    → Yields (each_pair (map walked.param (map (λ (h : KeptParam). h.0) hs)) w) (λ xs. map param_tree xs.0 ≡ map (λ (h : KeptParam). h.0) hs)
params-keep hs w =
    subst (λ (ps : List (Walk (TypedParam × Parameter))). Yields (each_pair ps w) (λ xs. map param_tree xs.0 ≡ map (λ (h : KeptParam). h.0) hs))
    (sym (map_twice walked.param (λ (h : KeptParam). h.0) hs))
    (each_pair_yields param_tree (λ (h : KeptParam). h.0) (λ h. walked.param h.0) (λ h v. h.1 v) hs w)

pub params-kept : (y : Kept Params-F) → KeepsParams (roll-Params (bare_params y))
params-kept Params-F.Nothing = λ w. along _ w (kept.walked-params Params-F.Nothing) params.rolls-Nothing (at_once erased.params-Nothing)
params-kept Params-F.VoidAlone = λ w. along _ w (kept.walked-params Params-F.VoidAlone) params.rolls-VoidAlone (at_once erased.params-VoidAlone)
params-kept (Params-F.List hs) = λ w.
    along _ w (kept.walked-params (Params-F.List (map (λ (h : KeptParam). h.0) hs))) (params.rolls-List (map (λ (h : KeptParam). h.0) hs))
    (after _ _ (inside_scope (each_pair (map walked.param (map (λ (h : KeptParam). h.0) hs))) (params-keep hs) w) (λ ps v is.
    whatever _ _ (λ _ u.
    at_once (erased.params-List ps.0 ∙ ap params.List is))))

-- ---- structs

one-keeps : (base : Ty) (x : LayeredDeclarator) (before : List Member) (d : Declarator) → declarator_tree x.tree ≡ d → (w : World)
    → Yields (one_member base x before w) (λ m. erased_declared m.0 ≡ d)
one-keeps base x before d is w = whatever _ _ (λ t v. at_once (erased.declared-made x.tree t ∙ is))

declarators-keep : (base : Ty) (hs : List KeptDeclarator) (before : List Member) (w : World)
    → Yields (member_declarators base (map walked.declarator (map (λ (h : KeptDeclarator). h.0) hs)) before w) (λ r. map erased_declared r.0 ≡ map (λ (h : KeptDeclarator). h.0) hs)
declarators-keep base [] before w = at_once refl
declarators-keep base (h ∷ hs) before w =
    after _ _ (h.1 w) (λ x v is.
    after (one_member base x before v) _ (one-keeps base x before h.0 is v) (λ m u first.
    after _ _ (declarators-keep base hs m.1 u) (λ rest s also.
    at_once (ap (λ d. d ∷ map erased_declared rest.0) first ∙ ap (λ ds. h.0 ∷ ds) also))))

pub member-kept : (y : Kept MemberDecl-F) → KeepsMemberDecl (roll-MemberDecl (bare_member y))
member-kept y = λ before w.
    along _ w (ap (λ (f : OfMember). f before) (kept.walked-member (bare_member y))) refl
    (after _ _ (y.spec.1 _ w) (λ base v is.
    after _ _ (declarators-keep base.1 y.declarators before v) (λ ds u also.
    at_once (erased.member-made base.0 ds.0 ∙ (λ i. raw.member_decl (is i) (also i))))))

members-keep : (hs : List KeptMemberDecl) (before : List Member) (w : World)
    → Yields (members (map walked.member (map (λ (h : KeptMemberDecl). h.0) hs)) before w) (λ r. map member_tree r.0 ≡ map (λ (h : KeptMemberDecl). h.0) hs)
members-keep [] before w = at_once refl
members-keep (h ∷ hs) before w =
    after _ _ (h.1 before w) (λ x v is.
    after _ _ (members-keep hs x.1 v) (λ rest u also.
    at_once (ap (λ d. d ∷ map member_tree rest.0) is ∙ ap (λ ds. h.0 ∷ ds) also)))

pub spec-kept : (y : Kept Spec-F) → KeepsSpec (roll-Spec (bare_spec y))
spec-kept Spec-F.Int = λ bodies w. along _ w (ap (λ (f : Bool → Walk _). f bodies) (kept.walked-spec Spec-F.Int)) spec.rolls-Int (at_once erased.spec-Int)
spec-kept Spec-F.Char = λ bodies w. along _ w (ap (λ (f : Bool → Walk _). f bodies) (kept.walked-spec Spec-F.Char)) spec.rolls-Char (at_once erased.spec-Char)
spec-kept Spec-F.Void = λ bodies w. along _ w (ap (λ (f : Bool → Walk _). f bodies) (kept.walked-spec Spec-F.Void)) spec.rolls-Void (at_once erased.spec-Void)
spec-kept (Spec-F.TypeName x) = λ bodies w.
    along _ w (ap (λ (f : Bool → Walk _). f bodies) (kept.walked-spec (Spec-F.TypeName x))) (spec.rolls-TypeName x)
    (whatever _ _ (λ t v. at_once (erased.spec-TypeName x)))
spec-kept (Spec-F.Struct x None) = λ bodies w.
    along _ w (ap (λ (f : Bool → Walk _). f bodies) (kept.walked-spec (Spec-F.Struct x None))) (spec.rolls-Struct x None)
    (whatever _ _ (λ n v. at_once (erased.spec-tag x)))
spec-kept (Spec-F.Struct x (Some hs)) = λ bodies w.
    along _ w (ap (λ (f : Bool → Walk _). f bodies) (kept.walked-spec (Spec-F.Struct x (Some (map (λ (h : KeptMemberDecl). h.0) hs))))) (spec.rolls-Struct x (Some (map (λ (h : KeptMemberDecl). h.0) hs)))
    (whatever _ _ (λ n v.
    after _ _ (members-keep hs [] v) (λ body u is.
    whatever _ _ (λ _ s.
    at_once (erased.spec-body x body.0 ∙ ap (λ ms. spec.Struct x (Some ms)) is)))))
