-- The parameters in a declarator's layers are scalars, and a scalar has units.
use Rattle.std.proofs.Common.{◌≡◌, ◌∙◌, ℕ, zero, suc, true, false, ◌&&◌, List, [], ◌∷◌, ◌++◌, map, Option, Some, None, is_ok, Ok, ap, sym, subst}
use Rattle.std.specs.List.{AllByRecursion}
use Rattle.std.specs.Option.{ok_or}
use Rattle.c_layers.specs.declared.layer.Layer.{Layer}
use Rattle.c_layers.specs.declared.layer.Layer.TheVariants as layer
use Rattle.c_layers.specs.declared.layer.Parameter.{Parameter}
use Rattle.c_layers.specs.Shapes.{adjusted, results_fit, shaped, stars_of, whole_of}
use Rattle.c_tree.specs.declared.expression.Direct.{Direct, roll-Direct, map-Direct}
use Rattle.c_tree.specs.declared.expression.Expr.{Expr}
use Rattle.c_tree.specs.declared.expression.Param.{Param, roll-Param, map-Param}
use Rattle.c_tree.specs.declared.expression.Params.{Params, roll-Params, map-Params}
use Rattle.c_tree.specs.declared.expression.Spec.{Spec}
use Rattle.c_tree.specs.declared.expression.Suffix.{Suffix, roll-Suffix, map-Suffix}
use Rattle.c_tree.specs.declared.expression.AbstractDeclarator.{AbstractDeclarator}
use Rattle.c_tree.specs.declared.expression.Declarator.{Declarator, roll-Declarator, map-Declarator, ind-Declarator}
use Rattle.c_tree.specs.declared.expression.MemberDecl.{MemberDecl}
use Rattle.c_tree.specs.declared.expression.TypeWord.{TypeWord}
use Rattle.c_tree.specs.declared.expression.Direct.TheOpen.{Declarator-F, Direct-F, Param-F, Params-F, Suffix-F}
use Rattle.c_tree.specs.Fold.{Node, Plain}
use Rattle.c_types.specs.declared.error.LayoutRefusal.TheVariants.{Incomplete}
use Rattle.c_types.specs.declared.structs.StructDef.{StructDef}
use Rattle.c_types.specs.declared.ty.Ty.{Ty, fold-roll-Ty, out-Ty, roll-Ty, roll-out-Ty}
use Rattle.c_types.specs.declared.ty.Ty.TheOpen.{Ty-F}
use Rattle.c_types.specs.Kinds.{Outer, is_scalar, is_scalar_at}
use Rattle.c_types.specs.Units.{exact_units, has_units, limited, sized, sized_step, units_of}
use Rattle.c_typed.specs.declared.expression.TypedDirect.{TypedDirect}
use Rattle.c_typed.specs.declared.expression.TypedParam.{TypedParam}
use Rattle.c_typed.specs.declared.expression.TypedParams.{TypedParams}
use Rattle.c_typed.specs.declared.expression.TypedSuffix.{TypedSuffix}
use Rattle.c_scope.specs.declared.rule.Rule.TheVariants as broken
use Rattle.c_scope.specs.declared.world.World.{World}
use Rattle.c_scope.specs.Declarations.{bind_parameter, may_be_parameter, parameter}
use Rattle.c_scope.specs.Walk.{Walk, each_pair, found, rule}
use Rattle.c_rules.specs.declared.place.Place.TheVariants.{Value}
use Rattle.c_declarator_rules.specs.declared.declarators.LayeredDeclarator.{LayeredDeclarator}
use Rattle.c_declarator_rules.specs.Rules.{constant_bound}
use Rattle.c_expr_typing.specs.Trees.{OfExpr, bounded, typed_declarator, walked}
use Rattle.c_operators.specs.Operators.{constant_of}
use Rattle.c_typed.specs.declared.expression.TypedSuffix.TheVariants as suffix
use Rattle.c_typed_rows.specs.Contexts.{Name}
use Rattle.c_typing_laws.specs.inner.Yields.{Yields, after, at_once, inside_scope, map_twice, whatever}
use Rattle.c_typing_laws.proofs.Conjunctions.{both}
use Rattle.c_typing_laws.proofs.FoundSteps.{ended, rule-found, split}
use Rattle.c_typing_laws.proofs.KeptNodes.{walked-declarator, walked-direct, walked-param, walked-params, walked-suffix}

-- ---- units of scalars

exact_by : (defs : List StructDef) (y : Outer) → is_scalar_at y ≡ true → exact_units defs (roll-Ty y) ≡ Some 1
unfolding exact_units sized
exact_by defs Ty-F.Int is = fold-roll-Ty (Option ℕ) (Option ℕ) (sized_step _) (λ f. None) Ty-F.Int
exact_by defs Ty-F.Char is = fold-roll-Ty (Option ℕ) (Option ℕ) (sized_step _) (λ f. None) Ty-F.Char
exact_by defs (Ty-F.Pointer t) is = fold-roll-Ty (Option ℕ) (Option ℕ) (sized_step _) (λ f. None) (Ty-F.Pointer t)
exact_by defs _ is = cc

pub scalar-units : (defs : List StructDef) (t : Ty) → is_scalar t ≡ true → has_units defs t ≡ true
unfolding is_scalar has_units units_of
scalar-units defs t is = ap (λ o. is_ok (limited (ok_or o Incomplete))) (ap (exact_units defs) (sym (roll-out-Ty t)) ∙ exact_by defs (out-Ty t) is)

-- ---- layers

abbrev pub IsScalarParameter : Parameter → Type 0
IsScalarParameter p = is_scalar p.ty ≡ true

abbrev pub LayerScalar : Layer → Type 0
LayerScalar (layer.Function ps) = AllByRecursion IsScalarParameter ps
LayerScalar _ = Unit {0}

abbrev pub LayersScalar : List Layer → Type 0
LayersScalar ls = AllByRecursion LayerScalar ls

layers-joined : (ls ms : List Layer) → LayersScalar ls → LayersScalar ms → LayersScalar (ls ++ ms)
layers-joined [] ms first second = second
layers-joined (l ∷ ls) ms first second = (first.0, layers-joined ls ms first.1 second)

stars-scalar : (n : ℕ) → LayersScalar (stars_of n)
stars-scalar zero = tt
stars-scalar (suc n) = (tt, tt)

-- ---- walks

parameter-found : (x : Option Name) (base : Ty) (ls : List Layer) (w : World) (r : Ty × World) → parameter x base ls w ≡ Ok r → is_scalar r.0 ≡ true
unfolding parameter
parameter-found x base ls w r is =
    let a = split (rule broken.Redeclared (may_be_parameter w x) w) _ r is in
    let b = split (found broken.Unsized (whole_of (adjusted (shaped w.structs base ls))) a.0.1) _ r a.1.1 in
    let c = split (rule broken.Form (results_fit w.structs base ls && is_scalar b.0.0) b.0.1) _ r b.1.1 in
    let d = split (bind_parameter x b.0.0 c.0.1) _ r c.1.1 in
    subst (λ (e : Ty × World). is_scalar e.0 ≡ true) (ended b.0.0 d.0.1 r d.1.1)
    (both (results_fit w.structs base ls) (is_scalar b.0.0) (rule-found broken.Form (results_fit w.structs base ls && is_scalar b.0.0) b.0.1 c.0 c.1.0).0).1

parameter-scalar : (x : Option Name) (base : Ty) (ls : List Layer) (w : World) → Yields (parameter x base ls w) (λ t. is_scalar t ≡ true)
parameter-scalar x base ls w = record { found = parameter-found x base ls w }

each_pair-all : {A B H : Type 0} (Q : B → Type 0) (p : H → Walk (A × B)) → ((h : H) (w : World) → Yields (p h w) (λ x. Q x.1))
    → (hs : List H) (w : World) → Yields (each_pair (map p hs) w) (λ xs. AllByRecursion Q xs.1)
each_pair-all Q p holds [] w = at_once tt
each_pair-all Q p holds (h ∷ hs) w =
    after (p h w) _ (holds h w) (λ x v first.
    after (each_pair (map p hs) v) _ (each_pair-all Q p holds hs v) (λ xs u rest.
    at_once (first, rest)))

-- ---- each tree

abbrev ScalarDirect : Direct → Type 0
ScalarDirect t = (w : World) → Yields (walked.direct t w) (λ x. LayersScalar x.2)

abbrev ScalarParam : Param → Type 0
ScalarParam t = (w : World) → Yields (walked.param t w) (λ x. IsScalarParameter x.1)

abbrev ScalarParams : Params → Type 0
ScalarParams t = (w : World) → Yields (walked.params t w) (λ x. AllByRecursion IsScalarParameter x.1)

abbrev ScalarSuffix : Suffix → Type 0
ScalarSuffix t = (w : World) → Yields (walked.suffix t w) (λ x. LayerScalar x.1)

abbrev ScalarDeclarator : Declarator → Type 0
ScalarDeclarator t = (w : World) → Yields (walked.declarator t w) (λ x. LayersScalar x.layers)

abbrev Whatever : Type 0 → Type 0
Whatever T = (t : T) × Unit {0}

abbrev WithDirect : Type 0
WithDirect = (t : Direct) × ScalarDirect t

abbrev WithParam : Type 0
WithParam = (t : Param) × ScalarParam t

abbrev WithParams : Type 0
WithParams = (t : Params) × ScalarParams t

abbrev WithSuffix : Type 0
WithSuffix = (t : Suffix) × ScalarSuffix t

abbrev WithDeclarator : Type 0
WithDeclarator = (t : Declarator) × ScalarDeclarator t

-- a node whose parts are such
abbrev Scalar : ((A B C D E F G H I J : Type 0) → Type 0) → Type 0
Scalar F = F WithDirect (Whatever Expr) WithParam WithParams (Whatever Spec) WithSuffix (Whatever AbstractDeclarator) WithDeclarator (Whatever MemberDecl) (Whatever TypeWord)

abbrev bare_direct : Scalar Direct-F → Node Plain Direct-F
bare_direct = map-Direct WithDirect (Whatever Expr) WithParam WithParams (Whatever Spec) WithSuffix (Whatever AbstractDeclarator) WithDeclarator (Whatever MemberDecl) (Whatever TypeWord)
    Direct Expr Param Params Spec Suffix AbstractDeclarator Declarator MemberDecl TypeWord
    (λ e. e.0) (λ e. e.0) (λ e. e.0) (λ e. e.0) (λ e. e.0) (λ e. e.0) (λ e. e.0) (λ e. e.0) (λ e. e.0) (λ e. e.0)

abbrev bare_param : Scalar Param-F → Node Plain Param-F
bare_param = map-Param WithDirect (Whatever Expr) WithParam WithParams (Whatever Spec) WithSuffix (Whatever AbstractDeclarator) WithDeclarator (Whatever MemberDecl) (Whatever TypeWord)
    Direct Expr Param Params Spec Suffix AbstractDeclarator Declarator MemberDecl TypeWord
    (λ e. e.0) (λ e. e.0) (λ e. e.0) (λ e. e.0) (λ e. e.0) (λ e. e.0) (λ e. e.0) (λ e. e.0) (λ e. e.0) (λ e. e.0)

abbrev bare_params : Scalar Params-F → Node Plain Params-F
bare_params = map-Params WithDirect (Whatever Expr) WithParam WithParams (Whatever Spec) WithSuffix (Whatever AbstractDeclarator) WithDeclarator (Whatever MemberDecl) (Whatever TypeWord)
    Direct Expr Param Params Spec Suffix AbstractDeclarator Declarator MemberDecl TypeWord
    (λ e. e.0) (λ e. e.0) (λ e. e.0) (λ e. e.0) (λ e. e.0) (λ e. e.0) (λ e. e.0) (λ e. e.0) (λ e. e.0) (λ e. e.0)

abbrev bare_suffix : Scalar Suffix-F → Node Plain Suffix-F
bare_suffix = map-Suffix WithDirect (Whatever Expr) WithParam WithParams (Whatever Spec) WithSuffix (Whatever AbstractDeclarator) WithDeclarator (Whatever MemberDecl) (Whatever TypeWord)
    Direct Expr Param Params Spec Suffix AbstractDeclarator Declarator MemberDecl TypeWord
    (λ e. e.0) (λ e. e.0) (λ e. e.0) (λ e. e.0) (λ e. e.0) (λ e. e.0) (λ e. e.0) (λ e. e.0) (λ e. e.0) (λ e. e.0)

abbrev bare_declarator : Scalar Declarator-F → Node Plain Declarator-F
bare_declarator = map-Declarator WithDirect (Whatever Expr) WithParam WithParams (Whatever Spec) WithSuffix (Whatever AbstractDeclarator) WithDeclarator (Whatever MemberDecl) (Whatever TypeWord)
    Direct Expr Param Params Spec Suffix AbstractDeclarator Declarator MemberDecl TypeWord
    (λ e. e.0) (λ e. e.0) (λ e. e.0) (λ e. e.0) (λ e. e.0) (λ e. e.0) (λ e. e.0) (λ e. e.0) (λ e. e.0) (λ e. e.0)

along : {A : Type 0} (Q : A → Type 0) {p q : Walk A} (w : World) → p ≡ q → Yields (q w) Q → Yields (p w) Q
along {A} Q {p} {q} w walks holds = subst (λ (f : Walk A). Yields (f w) Q) (sym walks) holds

abbrev OfDirect : TypedDirect × Name × List Layer → Type 0
OfDirect x = LayersScalar x.2

abbrev OfParam : TypedParam × Parameter → Type 0
OfParam x = IsScalarParameter x.1

abbrev OfParams : TypedParams × List Parameter → Type 0
OfParams x = AllByRecursion IsScalarParameter x.1

abbrev OfSuffix : TypedSuffix × Layer → Type 0
OfSuffix x = LayerScalar x.1

abbrev OfDeclarator : LayeredDeclarator → Type 0
OfDeclarator x = LayersScalar x.layers

direct-scalar : (y : Scalar Direct-F) → ScalarDirect (roll-Direct (bare_direct y))
direct-scalar (Direct-F.Name x) = λ w. along OfDirect w (walked-direct (Direct-F.Name x)) (at_once tt)
direct-scalar (Direct-F.Bracketed d) = λ w. along OfDirect w (walked-direct (Direct-F.Bracketed d.0)) (after _ _ (d.1 w) (λ x v is. at_once is))

bounded-found : (e : OfExpr) (w : World) (r : (TypedSuffix × Layer) × World) → bounded e w ≡ Ok r → OfSuffix r.0
bounded-found e w r is =
    let a = split (e Value w) _ r is in
    let b = split (constant_bound (constant_of a.0.0) a.0.1) _ r a.1.1 in
    subst (λ (s : (TypedSuffix × Layer) × World). OfSuffix s.0) (ended (suffix.Array (Some a.0.0), layer.Array (Some b.0.0)) b.0.1 r b.1.1) tt

suffix-scalar : (y : Scalar Suffix-F) → ScalarSuffix (roll-Suffix (bare_suffix y))
suffix-scalar (Suffix-F.Array None) = λ w. along OfSuffix w (walked-suffix (Suffix-F.Array None)) (at_once tt)
suffix-scalar (Suffix-F.Array (Some e)) = λ w. along OfSuffix w (walked-suffix (Suffix-F.Array (Some e.0))) (record { found = bounded-found (walked.expr e.0) w })
suffix-scalar (Suffix-F.Function p) = λ w. along OfSuffix w (walked-suffix (Suffix-F.Function p.0)) (after _ _ (p.1 w) (λ x v is. at_once is))

suffixes-scalar : (hs : List WithSuffix) (w : World) → Yields (each_pair (map walked.suffix (map (λ (h : WithSuffix). h.0) hs)) w) (λ xs. LayersScalar xs.1)
suffixes-scalar hs w =
    subst (λ (ps : List (Walk (TypedSuffix × Layer))). Yields (each_pair ps w) (λ xs. LayersScalar xs.1)) (sym (map_twice walked.suffix (λ (h : WithSuffix). h.0) hs))
    (each_pair-all LayerScalar (λ (h : WithSuffix). walked.suffix h.0) (λ h v. h.1 v) hs w)

declarator-scalar : (y : Scalar Declarator-F) → ScalarDeclarator (roll-Declarator (bare_declarator y))
declarator-scalar y = λ w. along OfDeclarator w (walked-declarator (bare_declarator y))
    (after _ _ (y.direct.1 w) (λ x v is.
    after _ _ (suffixes-scalar y.suffixes v) (λ ss u also.
    at_once (layers-joined (x.2 ++ ss.1) (stars_of y.stars) (layers-joined x.2 ss.1 is also) (stars-scalar y.stars)))))

param-scalar : (y : Scalar Param-F) → ScalarParam (roll-Param (bare_param y))
param-scalar (Param-F.Named s d) = λ w. along OfParam w (walked-param (Param-F.Named s.0 d.0))
    (whatever (walked.spec s.0 false w) _ (λ base v. whatever (walked.declarator d.0 v) _ (λ x u. after _ _ (parameter-scalar (Some x.name) base.1 x.layers u) (λ t r is. at_once is))))
param-scalar (Param-F.Unnamed s a) = λ w. along OfParam w (walked-param (Param-F.Unnamed s.0 a.0))
    (whatever (walked.spec s.0 false w) _ (λ base v. whatever (walked.abstract a.0 v) _ (λ x u. after _ _ (parameter-scalar None base.1 x.1 u) (λ t r is. at_once is))))

params-go : (hs : List WithParam) (w : World) → Yields (each_pair (map walked.param (map (λ (h : WithParam). h.0) hs)) w) (λ xs. AllByRecursion IsScalarParameter xs.1)
params-go hs w =
    subst (λ (ps : List (Walk (TypedParam × Parameter))). Yields (each_pair ps w) (λ xs. AllByRecursion IsScalarParameter xs.1)) (sym (map_twice walked.param (λ (h : WithParam). h.0) hs))
    (each_pair-all IsScalarParameter (λ (h : WithParam). walked.param h.0) (λ h v. h.1 v) hs w)

params-scalar : (y : Scalar Params-F) → ScalarParams (roll-Params (bare_params y))
params-scalar Params-F.Nothing = λ w. along OfParams w (walked-params Params-F.Nothing) (at_once tt)
params-scalar Params-F.VoidAlone = λ w. along OfParams w (walked-params Params-F.VoidAlone) (at_once tt)
params-scalar (Params-F.List hs) = λ w. along OfParams w (walked-params (Params-F.List (map (λ (h : WithParam). h.0) hs)))
    (after _ _ (inside_scope (each_pair (map walked.param (map (λ (h : WithParam). h.0) hs))) (params-go hs) w) (λ ps v is. whatever _ _ (λ _ u. at_once is)))

direct-step : (x : Node Plain Direct-F) (y : Scalar Direct-F) → bare_direct y ≡ x → ScalarDirect (roll-Direct x)
direct-step x y is = subst (λ z. ScalarDirect (roll-Direct z)) is (direct-scalar y)

param-step : (x : Node Plain Param-F) (y : Scalar Param-F) → bare_param y ≡ x → ScalarParam (roll-Param x)
param-step x y is = subst (λ z. ScalarParam (roll-Param z)) is (param-scalar y)

params-step : (x : Node Plain Params-F) (y : Scalar Params-F) → bare_params y ≡ x → ScalarParams (roll-Params x)
params-step x y is = subst (λ z. ScalarParams (roll-Params z)) is (params-scalar y)

suffix-step : (x : Node Plain Suffix-F) (y : Scalar Suffix-F) → bare_suffix y ≡ x → ScalarSuffix (roll-Suffix x)
suffix-step x y is = subst (λ z. ScalarSuffix (roll-Suffix z)) is (suffix-scalar y)

declarator-step : (x : Node Plain Declarator-F) (y : Scalar Declarator-F) → bare_declarator y ≡ x → ScalarDeclarator (roll-Declarator x)
declarator-step x y is = subst (λ z. ScalarDeclarator (roll-Declarator z)) is (declarator-scalar y)

all-scalar : (t : Declarator) → ScalarDeclarator t
all-scalar = ind-Declarator
    ScalarDirect (λ _. Unit {0}) ScalarParam ScalarParams (λ _. Unit {0}) ScalarSuffix (λ _. Unit {0}) ScalarDeclarator (λ _. Unit {0}) (λ _. Unit {0})
    direct-step (λ x y is. tt) param-step params-step (λ x y is. tt) suffix-step (λ x y is. tt) declarator-step (λ x y is. tt) (λ x y is. tt)

-- what a declarator's layers take
pub layers-scalar : (d : Declarator) (w : World) (r : LayeredDeclarator × World) → typed_declarator d w ≡ Ok r → LayersScalar r.0.layers
layers-scalar d w r is = (all-scalar d w).found r is
