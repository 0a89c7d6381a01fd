-- The walk of each form of an expression, a spec, a declarator and a type word.
use Rattle.std.proofs.Common.{◌≡◌, ℕ, Bool, List, map, Some, None, ap, sym, ◌∙◌}
use Rattle.std.specs.Option.{option_map}
use Rattle.c_types.specs.declared.structs.Member.{Member}
use Rattle.c_types.specs.declared.ty.Ty.TheVariants as ty
use Rattle.c_tree.specs.declared.expression.AbstractDeclarator.{AbstractDeclarator, out-AbstractDeclarator}
use Rattle.c_tree.specs.declared.expression.Declarator.{Declarator, out-Declarator}
use Rattle.c_tree.specs.declared.expression.Direct.TheOpen.{Direct-F, Param-F, Params-F, Suffix-F}
use Rattle.c_tree.specs.declared.expression.Direct.TheVariants as direct
use Rattle.c_tree.specs.declared.expression.Expr.{Expr}
use Rattle.c_tree.specs.declared.expression.Expr.TheVariants as expr
use Rattle.c_tree.specs.declared.expression.MemberDecl.{MemberDecl, out-MemberDecl}
use Rattle.c_tree.specs.declared.expression.Param.{Param}
use Rattle.c_tree.specs.declared.expression.Param.TheVariants as param
use Rattle.c_tree.specs.declared.expression.Params.{Params}
use Rattle.c_tree.specs.declared.expression.Params.TheVariants as params
use Rattle.c_tree.specs.declared.expression.Spec.{Spec}
use Rattle.c_tree.specs.declared.expression.Spec.TheVariants as spec
use Rattle.c_tree.specs.declared.expression.Suffix.TheVariants as suffix
use Rattle.c_tree.specs.declared.expression.TypeWord.{TypeWord, out-TypeWord}
use Rattle.c_tree.specs.Fold.{expr_node}
use Rattle.c_tree.specs.inner.FoldEquations as tree
use Rattle.c_typed.specs.declared.expression.TypedSpec.TheVariants as typed_spec
use Rattle.c_rules.specs.declared.place.Place.{Place}
use Rattle.c_scope.specs.declared.world.World.{World}
use Rattle.c_scope.specs.Walk.{pure}
use Rattle.c_declarator_rules.specs.Rules.{struct_spec, type_name}
use Rattle.c_expr_typing.specs.Trees.{abstract_step, bounded, called, declarator_step, direct_step, expr_step, member_step, param_step, params_step, struct_body, suffix_step, type_word_step, walk_steps, walked}

pub expr-of : (e : Expr) (place : Place) (w : World) → walked.expr e place w ≡ expr_step (expr_node walked e) place w
unfolding walked
expr-of e place w = ap (λ f. f place w) (tree.expr-of walk_steps e)

-- a call's node has the walks of its parts
pub expr-Call : (f : Expr) (es : List Expr) (place : Place) (w : World)
    → expr_step (expr_node walked (expr.Call f es)) place w ≡ called (walked.expr f) (map walked.expr es) w
unfolding walked
expr-Call f es place w = sym (expr-of (expr.Call f es) place w) ∙ ap (λ g. g place w) (tree.expr-Call walk_steps f es)

-- ---- specs

pub spec-Int : (bodies : Bool) (w : World) → walked.spec spec.Int bodies w ≡ pure (typed_spec.Int, ty.Int) w
unfolding walked
spec-Int bodies w = ap (λ f. f bodies w) (tree.spec-Int walk_steps)

pub spec-Char : (bodies : Bool) (w : World) → walked.spec spec.Char bodies w ≡ pure (typed_spec.Char, ty.Char) w
unfolding walked
spec-Char bodies w = ap (λ f. f bodies w) (tree.spec-Char walk_steps)

pub spec-Void : (bodies : Bool) (w : World) → walked.spec spec.Void bodies w ≡ pure (typed_spec.Void, ty.Void) w
unfolding walked
spec-Void bodies w = ap (λ f. f bodies w) (tree.spec-Void walk_steps)

pub spec-TypeName : (x : List ℕ) (bodies : Bool) (w : World) → walked.spec (spec.TypeName x) bodies w ≡ type_name x w
unfolding walked
spec-TypeName x bodies w = ap (λ f. f bodies w) (tree.spec-TypeName walk_steps x)

pub spec-tag : (x : List ℕ) (bodies : Bool) (w : World) → walked.spec (spec.Struct x None) bodies w ≡ struct_spec x w
unfolding walked
spec-tag x bodies w = ap (λ f. f bodies w) (tree.spec-Struct walk_steps x None)

pub spec-body : (x : List ℕ) (ms : List MemberDecl) (bodies : Bool) (w : World)
    → walked.spec (spec.Struct x (Some ms)) bodies w ≡ struct_body x (map walked.member ms) bodies w
unfolding walked
spec-body x ms bodies w = ap (λ f. f bodies w) (tree.spec-Struct walk_steps x (Some ms))

pub member-of : (m : MemberDecl) (before : List Member) (w : World) → walked.member m before w
    ≡ member_step (record { spec = walked.spec (out-MemberDecl m).spec; declarators = map walked.declarator (out-MemberDecl m).declarators }) before w
unfolding walked
member-of m before w = ap (λ f. f before w) (tree.member-of walk_steps m)

-- ---- declarators and type words

pub abstract-of : (a : AbstractDeclarator) (w : World) → walked.abstract a w
    ≡ abstract_step (record {
      stars = (out-AbstractDeclarator a).stars;
      bracketed = option_map walked.abstract (out-AbstractDeclarator a).bracketed;
      suffixes = map walked.suffix (out-AbstractDeclarator a).suffixes;
    }) w
unfolding walked
abstract-of a w = ap (λ f. f w) (tree.abstract-of walk_steps a)

pub declarator-of : (d : Declarator) (w : World) → walked.declarator d w
    ≡ declarator_step (record {
      stars = (out-Declarator d).stars;
      direct = walked.direct (out-Declarator d).direct;
      suffixes = map walked.suffix (out-Declarator d).suffixes;
    }) w
unfolding walked
declarator-of d w = ap (λ f. f w) (tree.declarator-of walk_steps d)

pub direct-Name : (x : List ℕ) (w : World) → walked.direct (direct.Name x) w ≡ direct_step (Direct-F.Name x) w
unfolding walked
direct-Name x w = ap (λ f. f w) (tree.direct-Name walk_steps x)

pub direct-Bracketed : (d : Declarator) (w : World) → walked.direct (direct.Bracketed d) w
    ≡ direct_step (Direct-F.Bracketed (walked.declarator d)) w
unfolding walked
direct-Bracketed d w = ap (λ f. f w) (tree.direct-Bracketed walk_steps d)

pub type_word-of : (t : TypeWord) (w : World) → walked.type_word t w
    ≡ type_word_step (record { spec = walked.spec (out-TypeWord t).spec; declarator = walked.abstract (out-TypeWord t).declarator }) w
unfolding walked
type_word-of t w = ap (λ f. f w) (tree.type_word-of walk_steps t)

-- ---- suffixes

pub suffix-open : (w : World) → walked.suffix (suffix.Array None) w ≡ suffix_step (Suffix-F.Array None) w
unfolding walked
suffix-open w = ap (λ f. f w) (tree.suffix-Array walk_steps None)

pub suffix-bound : (e : Expr) (w : World) → walked.suffix (suffix.Array (Some e)) w ≡ bounded (walked.expr e) w
unfolding walked
suffix-bound e w = ap (λ f. f w) (tree.suffix-Array walk_steps (Some e))

pub suffix-Function : (p : Params) (w : World) → walked.suffix (suffix.Function p) w ≡ suffix_step (Suffix-F.Function (walked.params p)) w
unfolding walked
suffix-Function p w = ap (λ f. f w) (tree.suffix-Function walk_steps p)

-- ---- parameters

pub params-Nothing : (w : World) → walked.params params.Nothing w ≡ params_step Params-F.Nothing w
unfolding walked
params-Nothing w = ap (λ f. f w) (tree.params-Nothing walk_steps)

pub params-VoidAlone : (w : World) → walked.params params.VoidAlone w ≡ params_step Params-F.VoidAlone w
unfolding walked
params-VoidAlone w = ap (λ f. f w) (tree.params-VoidAlone walk_steps)

pub params-List : (all : List Param) (w : World) → walked.params (params.List all) w ≡ params_step (Params-F.List (map walked.param all)) w
unfolding walked
params-List all w = ap (λ f. f w) (tree.params-List walk_steps all)

pub param-Named : (s : Spec) (d : Declarator) (w : World) → walked.param (param.Named s d) w
    ≡ param_step (Param-F.Named (walked.spec s) (walked.declarator d)) w
unfolding walked
param-Named s d w = ap (λ f. f w) (tree.param-Named walk_steps s d)

pub param-Unnamed : (s : Spec) (a : AbstractDeclarator) (w : World) → walked.param (param.Unnamed s a) w
    ≡ param_step (Param-F.Unnamed (walked.spec s) (walked.abstract a)) w
unfolding walked
param-Unnamed s a w = ap (λ f. f w) (tree.param-Unnamed walk_steps s a)

pub ruleset expressions = (expr-of)

pub ruleset specs = (spec-Int, spec-Char, spec-Void, spec-TypeName, spec-tag, spec-body)

pub ruleset members = (member-of)

pub ruleset declarators = (abstract-of, declarator-of)

pub ruleset directs = (direct-Name, direct-Bracketed)

pub ruleset type_words = (type_word-of)

pub ruleset suffixes = (suffix-open, suffix-bound, suffix-Function)

pub ruleset parameters = (params-Nothing, params-VoidAlone, params-List, param-Named, param-Unnamed)
