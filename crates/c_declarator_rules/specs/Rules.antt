-- The rules of declarators, parameters, type words, specs and members, behind what the walk finds of their parts.
use Rattle.std.specs.Prelude.{ℕ, Bool, ◌&&◌, List, [], ◌∷◌, ◌++◌, Option, Some, None, ℤ, pos, int_le, unsigned_abs}
use Rattle.std.specs.Option.{option_map}
use Rattle.c_layers.specs.declared.layer.Layer.{Layer}
use Rattle.c_layers.specs.declared.layer.Parameter.{Parameter}
use Rattle.c_layers.specs.Shapes.{stars_of}
use Rattle.c_types.specs.declared.structs.Member.{Member}
use Rattle.c_types.specs.declared.ty.Ty.{Ty}
use Rattle.c_types.specs.declared.ty.Ty.TheVariants as ty
use Rattle.c_typed.specs.declared.entity.Constant.{Constant}
use Rattle.c_typed.specs.declared.entity.Constant.TheVariants as constant
use Rattle.c_typed.specs.declared.expression.Declared.{Declared, roll-Declared}
use Rattle.c_typed.specs.declared.expression.TypedAbstractDeclarator.{TypedAbstractDeclarator, roll-TypedAbstractDeclarator}
use Rattle.c_typed.specs.declared.expression.TypedDeclarator.{TypedDeclarator, roll-TypedDeclarator}
use Rattle.c_typed.specs.declared.expression.TypedDirect.{TypedDirect}
use Rattle.c_typed.specs.declared.expression.TypedParam.{TypedParam}
use Rattle.c_typed.specs.declared.expression.TypedParam.TheVariants as param
use Rattle.c_typed.specs.declared.expression.TypedSpec.{TypedSpec}
use Rattle.c_typed.specs.declared.expression.TypedSpec.TheVariants as spec
use Rattle.c_typed.specs.declared.expression.TypedSuffix.{TypedSuffix}
use Rattle.c_typed.specs.declared.expression.TypedTypeWord.{TypedTypeWord, roll-TypedTypeWord}
use Rattle.c_scope.specs.declared.rule.Rule.TheVariants as broken
use Rattle.c_scope.specs.declared.scopes.Meaning.{Meaning}
use Rattle.c_scope.specs.declared.scopes.Meaning.TheVariants as means
use Rattle.c_scope.specs.Declarations.{is_undefined, member_type, parameter, word_type}
use Rattle.c_scope.specs.BuiltIns.{Name}
use Rattle.c_scope.specs.Scopes.{meaning_of, tag}
use Rattle.c_scope.specs.Walk.{Walk, ◌>>=◌, ◌>>◌, breaks, found, pure, rule, world}
use Rattle.c_declarator_rules.specs.declared.declarators.LayeredDeclarator.{LayeredDeclarator}

-- ---- declarators

abbrev pub declared : TypedDeclarator → Ty → Declared
declared d t = roll-Declared (record { declarator = d; ty = t })

abbrev pub is_bound : ℤ → Bool
is_bound v = int_le (pos 1) v && int_le v (pos 65536)

-- a bound is constant, and from 1 to 65,536
abbrev pub constant_bound : Constant → Walk ℕ
constant_bound (constant.Value v) = rule broken.Unsized (is_bound v) >> pure (unsigned_abs v)
constant_bound _ = breaks broken.NotConstant

-- what stands inside, then the suffixes, then the stars
abbrev pub layered : ℕ → TypedDirect × Name × List Layer → List TypedSuffix × List Layer → LayeredDeclarator
layered stars inside suffixes = record {
  tree = roll-TypedDeclarator (record { stars = stars; direct = inside.0; suffixes = suffixes.0 });
  name = inside.1;
  layers = inside.2 ++ suffixes.1 ++ stars_of stars;
}

abbrev pub tree_inside : Option (TypedAbstractDeclarator × List Layer) → Option TypedAbstractDeclarator
tree_inside o = option_map (λ x. x.0) o

abbrev pub layers_inside : Option (TypedAbstractDeclarator × List Layer) → List Layer
layers_inside None = []
layers_inside (Some x) = x.1

abbrev pub abstract_layered : ℕ → Option (TypedAbstractDeclarator × List Layer) → List TypedSuffix × List Layer → TypedAbstractDeclarator × List Layer
abstract_layered stars inside suffixes = (
  roll-TypedAbstractDeclarator (record { stars = stars; bracketed = tree_inside inside; suffixes = suffixes.0 }),
  layers_inside inside ++ suffixes.1 ++ stars_of stars,
)

-- ---- parameters and type words

abbrev pub named_param : TypedSpec × Ty → LayeredDeclarator → Walk (TypedParam × Parameter)
named_param base x = do
  t ← parameter (Some x.name) base.1 x.layers
  pure (param.Named base.0 (declared x.tree t), record { name = Some x.name; ty = t })

abbrev pub unnamed_param : TypedSpec × Ty → TypedAbstractDeclarator × List Layer → Walk (TypedParam × Parameter)
unnamed_param base x = do
  t ← parameter None base.1 x.1
  pure (param.Unnamed base.0 x.0 t, record { name = None; ty = t })

abbrev pub whole_word : TypedSpec × Ty → TypedAbstractDeclarator × List Layer → Walk TypedTypeWord
whole_word base x = do
  t ← word_type base.1 x.1
  pure (roll-TypedTypeWord (record { spec = base.0; declarator = x.0; ty = t }))

-- ---- specs

abbrev pub named_type : Option Meaning → Option Ty
named_type (Some (means.TypeName t)) = Some t
named_type _ = None

abbrev pub type_name : Name → Walk (TypedSpec × Ty)
type_name x = do
  w ← world
  t ← found broken.Undeclared (named_type (meaning_of w.scopes x))
  pure (spec.TypeName x, t)

abbrev pub struct_spec : Name → Walk (TypedSpec × Ty)
struct_spec x = tag x >>= (λ n. pure (spec.Struct x None, ty.Struct n))

-- the tag of a body that may stand here
abbrev pub body_tag : Name → Bool → Walk ℕ
body_tag x bodies = do
  n ← tag x
  w ← world
  rule broken.Tag (bodies && is_undefined w.structs n)
  pure n

-- one declarator of members that stand behind these
abbrev pub one_member : Ty → LayeredDeclarator → List Member → Walk (Declared × List Member)
one_member base x before = do
  t ← member_type before x.name base x.layers
  pure (declared x.tree t, before ++ record { name = x.name; ty = t } ∷ [])
