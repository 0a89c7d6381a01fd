-- The walk of expressions, type words and declarators: each part in source order, then the rules of the whole.
use Rattle.std.specs.Prelude.{Bool, false, nat_le, List, [], ◌∷◌, length, map, Some, None}
use Rattle.c_layers.specs.declared.layer.Layer.{Layer}
use Rattle.c_layers.specs.declared.layer.Layer.TheVariants as layer
use Rattle.c_layers.specs.declared.layer.Parameter.{Parameter}
use Rattle.c_types.specs.declared.structs.Member.{Member}
use Rattle.c_types.specs.declared.ty.Ty.{Ty}
use Rattle.c_types.specs.declared.ty.Ty.TheVariants as ty
use Rattle.c_tree.specs.declared.operator.BinaryOperator.TheVariants as op
use Rattle.c_tree.specs.declared.expression.Declarator.{Declarator}
use Rattle.c_tree.specs.declared.expression.Direct.TheOpen.{AbstractDeclarator-F, Declarator-F, Direct-F, Expr-F, MemberDecl-F, Param-F, Params-F, Spec-F, Suffix-F, TypeWord-F}
use Rattle.c_tree.specs.declared.expression.Expr.{Expr}
use Rattle.c_tree.specs.declared.expression.Spec.{Spec}
use Rattle.c_tree.specs.Fold.{Node, Pass, Results, Steps, fold}
use Rattle.c_typed.specs.declared.expression.Declared.{Declared}
use Rattle.c_typed.specs.declared.expression.TypedAbstractDeclarator.{TypedAbstractDeclarator}
use Rattle.c_typed.specs.declared.expression.TypedDirect.{TypedDirect}
use Rattle.c_typed.specs.declared.expression.TypedDirect.TheVariants as direct
use Rattle.c_typed.specs.declared.expression.TypedExpr.{TypedExpr}
use Rattle.c_typed.specs.declared.expression.TypedForm.TheVariants as form
use Rattle.c_typed.specs.declared.expression.TypedMemberDecl.{TypedMemberDecl, roll-TypedMemberDecl}
use Rattle.c_typed.specs.declared.expression.TypedParam.{TypedParam}
use Rattle.c_typed.specs.declared.expression.TypedParams.{TypedParams}
use Rattle.c_typed.specs.declared.expression.TypedParams.TheVariants as params
use Rattle.c_typed.specs.declared.expression.TypedSpec.{TypedSpec}
use Rattle.c_typed.specs.declared.expression.TypedSpec.TheVariants as spec
use Rattle.c_typed.specs.declared.expression.TypedSuffix.{TypedSuffix}
use Rattle.c_typed.specs.declared.expression.TypedSuffix.TheVariants as suffix
use Rattle.c_typed.specs.declared.expression.TypedTypeWord.{TypedTypeWord}
use Rattle.c_scope.specs.declared.rule.Rule.TheVariants as broken
use Rattle.c_scope.specs.Declarations.{define, most_parameters}
use Rattle.c_scope.specs.BuiltIns.{Name}
use Rattle.c_scope.specs.Scopes.{within}
use Rattle.c_scope.specs.Walk.{Walk, ◌>>=◌, ◌>>◌, each, each_pair, maybe, pure, rule}
use Rattle.c_declarator_rules.specs.declared.declarators.LayeredDeclarator.{LayeredDeclarator}
use Rattle.c_declarator_rules.specs.Rules.{abstract_layered, body_tag, constant_bound, layered, named_param, one_member, struct_spec, type_name, unnamed_param, whole_word}
use Rattle.c_rules.specs.declared.place.Place.{Place}
use Rattle.c_rules.specs.declared.place.Place.TheVariants.{Callee, Value}
use Rattle.c_operators.specs.Operators.{constant_of}
use Rattle.c_rules.specs.Rules.{arrow, assignment, binary, call, cast, conditional, identifier, index, member, number, size_of_type, size_of_value, stepped, text, unary_of}

-- ---- what the walk of each part finds

abbrev pub OfExpr : Type 0
OfExpr = Place → Walk TypedExpr

abbrev pub OfSpec : Type 0
OfSpec = Bool → Walk (TypedSpec × Ty)

abbrev pub OfMember : Type 0
OfMember = List Member → Walk (TypedMemberDecl × List Member)

abbrev pub Found : Results
Found = record {
  direct = Walk (TypedDirect × Name × List Layer);
  expr = OfExpr;
  param = Walk (TypedParam × Parameter);
  params = Walk (TypedParams × List Parameter);
  spec = OfSpec;
  suffix = Walk (TypedSuffix × Layer);
  abstract = Walk (TypedAbstractDeclarator × List Layer);
  declarator = Walk LayeredDeclarator;
  member = OfMember;
  type_word = Walk TypedTypeWord;
}

-- ---- expressions

abbrev pub arguments : List OfExpr → Walk (List TypedExpr)
arguments es = each (map (λ e. e Value) es)

-- two operands in order
abbrev pub operands : OfExpr → OfExpr → Walk (TypedExpr × TypedExpr)
operands a b = do
  x ← a Value
  y ← b Value
  pure (x, y)

-- a test and its arms
abbrev pub arms : OfExpr → OfExpr → OfExpr → Walk (TypedExpr × TypedExpr × TypedExpr)
arms c a b = do
  t ← c Value
  x ← a Value
  y ← b Value
  pure (t, x, y)

-- a type word and what is cast to it
abbrev pub cast_parts : Walk TypedTypeWord → OfExpr → Walk (TypedTypeWord × TypedExpr)
cast_parts t a = do
  to ← t
  x ← a Value
  pure (to, x)

-- what is called, then the arguments
abbrev pub called : OfExpr → List OfExpr → Walk TypedExpr
called f es = do
  x ← f Callee
  ys ← arguments es
  call x ys

abbrev pub expr_step : Node Found Expr-F → OfExpr
expr_step (Expr-F.Assign a o b) place = operands a b >>= (λ p. assignment p.0 o p.1)
expr_step (Expr-F.Conditional c a b) place = arms c a b >>= (λ p. conditional p.0 p.1 p.2)
expr_step (Expr-F.Binary a o b) place = operands a b >>= (λ p. binary p.0 o p.1)
expr_step (Expr-F.Cast t a) place = cast_parts t a >>= (λ p. cast p.0 p.1)
expr_step (Expr-F.PreIncrement a) place = a Value >>= stepped op.Add form.PreIncrement
expr_step (Expr-F.PreDecrement a) place = a Value >>= stepped op.Subtract form.PreDecrement
expr_step (Expr-F.Unary o a) place = a Value >>= unary_of o
expr_step (Expr-F.SizeofExpr a) place = a Value >>= size_of_value
expr_step (Expr-F.SizeofType t) place = t >>= size_of_type
expr_step (Expr-F.Index a i) place = operands a i >>= (λ p. index p.0 p.1)
expr_step (Expr-F.Call f es) place = called f es
expr_step (Expr-F.Member a m) place = a Value >>= (λ x. member x m)
expr_step (Expr-F.Arrow a m) place = a Value >>= (λ x. arrow x m)
expr_step (Expr-F.PostIncrement a) place = a Value >>= stepped op.Add form.PostIncrement
expr_step (Expr-F.PostDecrement a) place = a Value >>= stepped op.Subtract form.PostDecrement
expr_step (Expr-F.Identifier x) place = identifier x place
expr_step (Expr-F.Number n) place = number n
expr_step (Expr-F.Text bytes) place = text bytes

-- ---- declarators

abbrev pub bounded : OfExpr → Walk (TypedSuffix × Layer)
bounded e = do
  x ← e Value
  n ← constant_bound (constant_of x)
  pure (suffix.Array (Some x), layer.Array (Some n))

abbrev pub suffix_step : Node Found Suffix-F → Walk (TypedSuffix × Layer)
suffix_step (Suffix-F.Array None) = pure (suffix.Array None, layer.Array None)
suffix_step (Suffix-F.Array (Some e)) = bounded e
suffix_step (Suffix-F.Function p) = p >>= (λ ps. pure (suffix.Function ps.0, layer.Function ps.1))

abbrev pub param_step : Node Found Param-F → Walk (TypedParam × Parameter)
param_step (Param-F.Named s d) = do
  base ← s false
  x ← d
  named_param base x
param_step (Param-F.Unnamed s a) = do
  base ← s false
  x ← a
  unnamed_param base x

abbrev pub params_step : Node Found Params-F → Walk (TypedParams × List Parameter)
params_step Params-F.Nothing = pure (params.Nothing, [])
params_step Params-F.VoidAlone = pure (params.VoidAlone, [])
params_step (Params-F.List all) = do
  ps ← within (each_pair all)
  rule broken.Form (nat_le (length ps.1) most_parameters)
  pure (params.List ps.0, ps.1)

abbrev pub direct_step : Node Found Direct-F → Walk (TypedDirect × Name × List Layer)
direct_step (Direct-F.Name x) = pure (direct.Name x, x, [])
direct_step (Direct-F.Bracketed d) = d >>= (λ x. pure (direct.Bracketed x.tree, x.name, x.layers))

abbrev pub declarator_step : Node Found Declarator-F → Walk LayeredDeclarator
declarator_step d = do
  x ← d.direct
  ss ← each_pair d.suffixes
  pure (layered d.stars x ss)

abbrev pub abstract_step : Node Found AbstractDeclarator-F → Walk (TypedAbstractDeclarator × List Layer)
abstract_step a = do
  x ← maybe a.bracketed
  ss ← each_pair a.suffixes
  pure (abstract_layered a.stars x ss)

abbrev pub type_word_step : Node Found TypeWord-F → Walk TypedTypeWord
type_word_step t = do
  base ← t.spec false
  x ← t.declarator
  whole_word base x

-- ---- specs

abbrev pub member_declarators : Ty → List (Walk LayeredDeclarator) → List Member → Walk (List Declared × List Member)
member_declarators base [] before = pure ([], before)
member_declarators base (d ∷ ds) before = do
  x ← d
  m ← one_member base x before
  rest ← member_declarators base ds m.1
  pure (m.0 ∷ rest.0, rest.1)

abbrev pub member_step : Node Found MemberDecl-F → OfMember
member_step m before = do
  base ← m.spec false
  ds ← member_declarators base.1 m.declarators before
  pure (roll-TypedMemberDecl (record { spec = base.0; declarators = ds.0 }), ds.1)

abbrev pub members : List OfMember → List Member → Walk (List TypedMemberDecl × List Member)
members [] before = pure ([], before)
members (m ∷ ms) before = do
  x ← m before
  rest ← members ms x.1
  pure (x.0 ∷ rest.0, rest.1)

abbrev pub struct_body : Name → List OfMember → Bool → Walk (TypedSpec × Ty)
struct_body x ms bodies = do
  n ← body_tag x bodies
  body ← members ms []
  define n body.1
  pure (spec.Struct x (Some body.0), ty.Struct n)

-- `bodies` says whether a struct's body may stand here
abbrev pub spec_step : Node Found Spec-F → OfSpec
spec_step Spec-F.Int bodies = pure (spec.Int, ty.Int)
spec_step Spec-F.Char bodies = pure (spec.Char, ty.Char)
spec_step Spec-F.Void bodies = pure (spec.Void, ty.Void)
spec_step (Spec-F.TypeName x) bodies = type_name x
spec_step (Spec-F.Struct x None) bodies = struct_spec x
spec_step (Spec-F.Struct x (Some ms)) bodies = struct_body x ms bodies

-- ---- whole trees

abbrev pub walk_steps : Steps Found
walk_steps = record {
  direct = direct_step;
  expr = expr_step;
  param = param_step;
  params = params_step;
  spec = spec_step;
  suffix = suffix_step;
  abstract = abstract_step;
  declarator = declarator_step;
  member = member_step;
  type_word = type_word_step;
}

unfoldable pub walked : Pass Found
walked = fold walk_steps

-- the typed form of an expression
abbrev pub typed_expr : Expr → Place → Walk TypedExpr
typed_expr = walked.expr

-- the typed form of a spec, and its type
abbrev pub typed_spec : Spec → Bool → Walk (TypedSpec × Ty)
typed_spec = walked.spec

-- the typed form of a declarator, its name and its layers
abbrev pub typed_declarator : Declarator → Walk LayeredDeclarator
typed_declarator = walked.declarator
