-- The name that the typed form of a declarator declares is the one that its walk finds.
use Rattle.std.proofs.Common.{◌≡◌, ◌∙◌, ℕ, List, Ok, ap, sym, subst}
use Rattle.c_layers.specs.declared.layer.Layer.{Layer}
use Rattle.c_tree.specs.declared.expression.Direct.{Direct, roll-Direct, map-Direct}
use Rattle.c_tree.specs.declared.expression.Expr.{Expr}
use Rattle.c_tree.specs.declared.expression.Param.{Param}
use Rattle.c_tree.specs.declared.expression.Params.{Params}
use Rattle.c_tree.specs.declared.expression.Spec.{Spec}
use Rattle.c_tree.specs.declared.expression.Suffix.{Suffix}
use Rattle.c_tree.specs.declared.expression.AbstractDeclarator.{AbstractDeclarator}
use Rattle.c_tree.specs.declared.expression.Declarator.{Declarator, roll-Declarator, map-Declarator, ind-Declarator}
use Rattle.c_tree.specs.declared.expression.MemberDecl.{MemberDecl}
use Rattle.c_tree.specs.declared.expression.TypeWord.{TypeWord}
use Rattle.c_tree.specs.declared.expression.Direct.TheOpen.{Direct-F, Declarator-F}
use Rattle.c_tree.specs.Fold.{Node, Plain}
use Rattle.c_types.specs.declared.ty.Ty.{Ty}
use Rattle.c_typed.specs.declared.expression.Declared.{fold-roll-Declared}
use Rattle.c_typed.specs.declared.expression.TypedDeclarator.{TypedDeclarator, roll-TypedDeclarator, fold-TypedDeclarator, fold-roll-TypedDeclarator}
use Rattle.c_typed.specs.declared.expression.TypedDirect.{TypedDirect, fold-TypedDirect, fold-roll-TypedDirect}
use Rattle.c_typed.specs.declared.expression.TypedDirect.TheOpen.{TypedDirect-F}
use Rattle.c_typed.specs.declared.expression.TypedDirect.TheVariants as typed_direct
use Rattle.c_typed.specs.declared.expression.TypedSuffix.{TypedSuffix}
use Rattle.c_scope.specs.declared.world.World.{World}
use Rattle.c_scope.specs.Walk.{Walk}
use Rattle.c_declarator_rules.specs.declared.declarators.LayeredDeclarator.{LayeredDeclarator}
use Rattle.c_declarator_rules.specs.Rules.{declared}
use Rattle.c_expr_typing.specs.Trees.{typed_declarator, walked}
use Rattle.c_typed_rows.specs.Contexts.{Name}
use Rattle.c_typed_rows.specs.Sources.{direct_name, name_of}
use Rattle.c_typing_laws.specs.inner.Yields.{Yields, after, at_once, whatever}
use Rattle.c_typing_laws.proofs.KeptNodes.{walked-declarator, walked-direct}

-- ---- names of trees

unfoldable direct_names : TypedDirect → Name
direct_names = fold-TypedDirect _ _ _ _ _ _ _ _ _ _ _ _ direct_name (λ _. tt) (λ _. tt) (λ _. tt) (λ _. tt) (λ _. tt)
    (λ d. d.declarator) (λ _. tt) (λ d. d.direct) (λ _. tt) (λ _. tt) (λ _. tt)

unfoldable declarator_names : TypedDeclarator → Name
declarator_names = fold-TypedDeclarator _ _ _ _ _ _ _ _ _ _ _ _ direct_name (λ _. tt) (λ _. tt) (λ _. tt) (λ _. tt) (λ _. tt)
    (λ d. d.declarator) (λ _. tt) (λ d. d.direct) (λ _. tt) (λ _. tt) (λ _. tt)

declared-named : (d : TypedDeclarator) (t : Ty) → name_of (declared d t) ≡ declarator_names d
unfolding name_of declarator_names
declared-named d t = fold-roll-Declared _ _ _ _ _ _ _ _ _ _ _ _ direct_name (λ _. tt) (λ _. tt) (λ _. tt) (λ _. tt) (λ _. tt)
    (λ d. d.declarator) (λ _. tt) (λ d. d.direct) (λ _. tt) (λ _. tt) (λ _. tt) (record { declarator = d; ty = t })

declarator-named : (n : ℕ) (d : TypedDirect) (ss : List TypedSuffix)
    → declarator_names (roll-TypedDeclarator (record { stars = n; direct = d; suffixes = ss })) ≡ direct_names d
unfolding direct_names declarator_names
declarator-named n d ss = fold-roll-TypedDeclarator _ _ _ _ _ _ _ _ _ _ _ _ direct_name (λ _. tt) (λ _. tt) (λ _. tt) (λ _. tt) (λ _. tt)
    (λ d. d.declarator) (λ _. tt) (λ d. d.direct) (λ _. tt) (λ _. tt) (λ _. tt) (record { stars = n; direct = d; suffixes = ss })

direct-Name : (x : Name) → direct_names (typed_direct.Name x) ≡ x
unfolding direct_names
direct-Name x = ap direct_names (sym (typed_direct.rolls-Name x))
    ∙ fold-roll-TypedDirect _ _ _ _ _ _ _ _ _ _ _ _ direct_name (λ _. tt) (λ _. tt) (λ _. tt) (λ _. tt) (λ _. tt)
    (λ d. d.declarator) (λ _. tt) (λ d. d.direct) (λ _. tt) (λ _. tt) (λ _. tt) (TypedDirect-F.Name x)

direct-Bracketed : (d : TypedDeclarator) → direct_names (typed_direct.Bracketed d) ≡ declarator_names d
unfolding direct_names declarator_names
direct-Bracketed d = ap direct_names (sym (typed_direct.rolls-Bracketed d))
    ∙ fold-roll-TypedDirect _ _ _ _ _ _ _ _ _ _ _ _ direct_name (λ _. tt) (λ _. tt) (λ _. tt) (λ _. tt) (λ _. tt)
    (λ d. d.declarator) (λ _. tt) (λ d. d.direct) (λ _. tt) (λ _. tt) (λ _. tt) (TypedDirect-F.Bracketed d)

-- ---- walks

abbrev NamesDirect : Direct → Type 0
NamesDirect t = (w : World) → Yields (walked.direct t w) (λ x. direct_names x.0 ≡ x.1)

abbrev NamesDeclarator : Declarator → Type 0
NamesDeclarator t = (w : World) → Yields (walked.declarator t w) (λ x. declarator_names x.tree ≡ x.name)

abbrev Whatever : Type 0 → Type 0
Whatever T = (t : T) × Unit {0}

abbrev NamedDirect : Type 0
NamedDirect = (t : Direct) × NamesDirect t

abbrev NamedDeclarator : Type 0
NamedDeclarator = (t : Declarator) × NamesDeclarator t

-- a node whose declarators are named so
abbrev Named : ((A B C D E F G H I J : Type 0) → Type 0) → Type 0
Named F = F NamedDirect (Whatever Expr) (Whatever Param) (Whatever Params) (Whatever Spec) (Whatever Suffix) (Whatever AbstractDeclarator) NamedDeclarator
    (Whatever MemberDecl) (Whatever TypeWord)

abbrev bare_direct : Named Direct-F → Node Plain Direct-F
bare_direct = map-Direct NamedDirect (Whatever Expr) (Whatever Param) (Whatever Params) (Whatever Spec) (Whatever Suffix) (Whatever AbstractDeclarator) NamedDeclarator
    (Whatever MemberDecl) (Whatever TypeWord)
    Direct Expr Param Params Spec Suffix AbstractDeclarator Declarator MemberDecl TypeWord
    (λ e. e.0) (λ e. e.0) (λ e. e.0) (λ e. e.0) (λ e. e.0) (λ e. e.0) (λ e. e.0) (λ e. e.0) (λ e. e.0) (λ e. e.0)

abbrev bare_declarator : Named Declarator-F → Node Plain Declarator-F
bare_declarator = map-Declarator NamedDirect (Whatever Expr) (Whatever Param) (Whatever Params) (Whatever Spec) (Whatever Suffix) (Whatever AbstractDeclarator) NamedDeclarator
    (Whatever MemberDecl) (Whatever TypeWord)
    Direct Expr Param Params Spec Suffix AbstractDeclarator Declarator MemberDecl TypeWord
    (λ e. e.0) (λ e. e.0) (λ e. e.0) (λ e. e.0) (λ e. e.0) (λ e. e.0) (λ e. e.0) (λ e. e.0) (λ e. e.0) (λ e. e.0)

along : {A : Type 0} (Q : A → Type 0) {p q : Walk A} (w : World) → p ≡ q → Yields (q w) Q → Yields (p w) Q
along {A} Q {p} {q} w walks holds = subst (λ (f : Walk A). Yields (f w) Q) (sym walks) holds

direct-names : (y : Named Direct-F) → NamesDirect (roll-Direct (bare_direct y))
direct-names (Direct-F.Name x) = λ w. along (λ (x : TypedDirect × Name × List Layer). direct_names x.0 ≡ x.1) w (walked-direct (Direct-F.Name x)) (at_once (direct-Name x))
direct-names (Direct-F.Bracketed d) = λ w. along (λ (x : TypedDirect × Name × List Layer). direct_names x.0 ≡ x.1) w (walked-direct (Direct-F.Bracketed d.0))
    (after _ _ (d.1 w) (λ x v is. at_once (direct-Bracketed x.tree ∙ is)))

declarator-names : (y : Named Declarator-F) → NamesDeclarator (roll-Declarator (bare_declarator y))
declarator-names y = λ w. along (λ (x : LayeredDeclarator). declarator_names x.tree ≡ x.name) w (walked-declarator (bare_declarator y))
    (after _ _ (y.direct.1 w) (λ x v is. whatever _ _ (λ ss u. at_once (declarator-named y.stars x.0 ss.0 ∙ is))))

direct-step : (x : Node Plain Direct-F) (y : Named Direct-F) → bare_direct y ≡ x → NamesDirect (roll-Direct x)
direct-step x y is = subst (λ z. NamesDirect (roll-Direct z)) is (direct-names y)

declarator-step : (x : Node Plain Declarator-F) (y : Named Declarator-F) → bare_declarator y ≡ x → NamesDeclarator (roll-Declarator x)
declarator-step x y is = subst (λ z. NamesDeclarator (roll-Declarator z)) is (declarator-names y)

all-named : (t : Declarator) → NamesDeclarator t
all-named = ind-Declarator
    NamesDirect (λ _. Unit {0}) (λ _. Unit {0}) (λ _. Unit {0}) (λ _. Unit {0}) (λ _. Unit {0}) (λ _. Unit {0}) NamesDeclarator (λ _. Unit {0}) (λ _. Unit {0})
    direct-step (λ x y is. tt) (λ x y is. tt) (λ x y is. tt) (λ x y is. tt) (λ x y is. tt) (λ x y is. tt) declarator-step (λ x y is. tt) (λ x y is. tt)

pub declared-name : (d : Declarator) (w : World) (r : LayeredDeclarator × World) (t : Ty) → typed_declarator d w ≡ Ok r → name_of (declared r.0.tree t) ≡ r.0.name
declared-name d w r t is = declared-named r.0.tree t ∙ (all-named d w).found r is
