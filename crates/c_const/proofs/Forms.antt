-- What is computed of each form of an expression, a spec, a declarator and a type word.
use Rattle.std.proofs.Common.{◌≡◌, ℕ, Bool, List, [], map, Some, None, Ok, Err, ap}
use Rattle.std.specs.Option.{option_map}
use Rattle.c_layers.specs.declared.layer.Layer.TheVariants as layer
use Rattle.c_types.specs.declared.structs.StructDef.{StructDef}
use Rattle.c_types.specs.declared.ty.Ty.{Ty}
use Rattle.c_types.specs.declared.ty.Ty.TheVariants as ty
use Rattle.c_tree.specs.declared.expression.AbstractDeclarator.{AbstractDeclarator, out-AbstractDeclarator}
use Rattle.c_tree.specs.declared.expression.Declarator.{Declarator, out-Declarator}
use Rattle.c_tree.specs.declared.expression.Direct.TheVariants as direct
use Rattle.c_tree.specs.declared.expression.Expr.{Expr}
use Rattle.c_tree.specs.declared.expression.MemberDecl.{MemberDecl}
use Rattle.c_tree.specs.declared.expression.Param.{Param}
use Rattle.c_tree.specs.declared.expression.Param.TheVariants as param
use Rattle.c_tree.specs.declared.expression.Params.{Params}
use Rattle.c_tree.specs.declared.expression.Params.TheVariants as params
use Rattle.c_tree.specs.declared.expression.Spec.{Spec}
use Rattle.c_tree.specs.declared.expression.Spec.TheVariants as spec
use Rattle.c_tree.specs.declared.expression.Suffix.TheVariants as suffix
use Rattle.c_tree.specs.declared.expression.TypeWord.{TypeWord, out-TypeWord}
use Rattle.c_tree.specs.Fold.{Pass, expr_node}
use Rattle.c_tree.specs.inner.FoldEquations as tree
use Rattle.c_const.specs.declared.error.ConstRefusal.TheVariants.{NotConstant}
use Rattle.c_const.specs.Constant.{Values, ◌>>=◌, bounded, each, expr_step, inside, layers_of, or_other, parameter, struct_type, type_named, type_word_step, value_steps}
use Rattle.c_const.specs.inner.Evaluated.{evaluated}

module _ (structs : List StructDef) (names : List (List ℕ × Ty)) where
  -- what is computed
  abbrev of : Pass Values
  of = evaluated structs names

  pub expr-of : (e : Expr) (live : Bool) → of.expr e live ≡ expr_step structs names (expr_node of e) live
  unfolding evaluated
  expr-of e live = ap (λ f. f live) (tree.expr-of (value_steps structs names) e)

  -- ---- specs

  pub spec-Int : of.spec spec.Int ≡ Ok ty.Int
  unfolding evaluated
  spec-Int = tree.spec-Int (value_steps structs names)

  pub spec-Char : of.spec spec.Char ≡ Ok ty.Char
  unfolding evaluated
  spec-Char = tree.spec-Char (value_steps structs names)

  pub spec-Void : of.spec spec.Void ≡ Ok ty.Void
  unfolding evaluated
  spec-Void = tree.spec-Void (value_steps structs names)

  pub spec-TypeName : (x : List ℕ) → of.spec (spec.TypeName x) ≡ or_other (type_named names x)
  unfolding evaluated
  spec-TypeName x = tree.spec-TypeName (value_steps structs names) x

  pub spec-tag : (x : List ℕ) → of.spec (spec.Struct x None) ≡ struct_type structs x
  unfolding evaluated
  spec-tag x = tree.spec-Struct (value_steps structs names) x None

  pub spec-body : (x : List ℕ) (members : List MemberDecl) → of.spec (spec.Struct x (Some members)) ≡ Err NotConstant
  unfolding evaluated
  spec-body x members = tree.spec-Struct (value_steps structs names) x (Some members)

  -- ---- declarators and type words

  pub abstract-of : (a : AbstractDeclarator) → of.abstract a
      ≡ layers_of (out-AbstractDeclarator a).stars (inside (option_map of.abstract (out-AbstractDeclarator a).bracketed)) (map of.suffix (out-AbstractDeclarator a).suffixes)
  unfolding evaluated
  abstract-of a = tree.abstract-of (value_steps structs names) a

  pub declarator-of : (d : Declarator) → of.declarator d
      ≡ layers_of (out-Declarator d).stars (of.direct (out-Declarator d).direct) (map of.suffix (out-Declarator d).suffixes)
  unfolding evaluated
  declarator-of d = tree.declarator-of (value_steps structs names) d

  pub direct-Name : (x : List ℕ) → of.direct (direct.Name x) ≡ Ok []
  unfolding evaluated
  direct-Name x = tree.direct-Name (value_steps structs names) x

  pub direct-Bracketed : (d : Declarator) → of.direct (direct.Bracketed d) ≡ of.declarator d
  unfolding evaluated
  direct-Bracketed d = tree.direct-Bracketed (value_steps structs names) d

  pub type_word-of : (t : TypeWord) → of.type_word t
      ≡ type_word_step structs names (record { spec = of.spec (out-TypeWord t).spec; declarator = of.abstract (out-TypeWord t).declarator })
  unfolding evaluated
  type_word-of t = tree.type_word-of (value_steps structs names) t

  -- ---- suffixes

  pub suffix-open : of.suffix (suffix.Array None) ≡ Ok (layer.Array None)
  unfolding evaluated
  suffix-open = tree.suffix-Array (value_steps structs names) None

  pub suffix-bound : (e : Expr) → of.suffix (suffix.Array (Some e)) ≡ bounded (of.expr e)
  unfolding evaluated
  suffix-bound e = tree.suffix-Array (value_steps structs names) (Some e)

  pub suffix-Function : (p : Params) → of.suffix (suffix.Function p) ≡ (of.params p >>= (λ ps. Ok (layer.Function ps)))
  unfolding evaluated
  suffix-Function p = tree.suffix-Function (value_steps structs names) p

  -- ---- parameters

  pub params-Nothing : of.params params.Nothing ≡ Ok []
  unfolding evaluated
  params-Nothing = tree.params-Nothing (value_steps structs names)

  pub params-VoidAlone : of.params params.VoidAlone ≡ Ok []
  unfolding evaluated
  params-VoidAlone = tree.params-VoidAlone (value_steps structs names)

  pub params-List : (all : List Param) → of.params (params.List all) ≡ each (map of.param all)
  unfolding evaluated
  params-List all = tree.params-List (value_steps structs names) all

  pub param-Named : (s : Spec) (d : Declarator) → of.param (param.Named s d) ≡ parameter structs names (of.spec s) (of.declarator d)
  unfolding evaluated
  param-Named s d = tree.param-Named (value_steps structs names) s d

  pub param-Unnamed : (s : Spec) (a : AbstractDeclarator) → of.param (param.Unnamed s a) ≡ parameter structs names (of.spec s) (of.abstract a)
  unfolding evaluated
  param-Unnamed s a = tree.param-Unnamed (value_steps structs names) s a

pub ruleset expressions = (expr-of)

pub ruleset specs = (spec-Int, spec-Char, spec-Void, spec-TypeName, spec-tag, spec-body)

pub ruleset declarators = (abstract-of, declarator-of, direct-Name, direct-Bracketed)

pub ruleset type_words = (type_word-of)

pub ruleset suffixes = (suffix-open, suffix-bound, suffix-Function)

pub ruleset parameters = (params-Nothing, params-VoidAlone, params-List, param-Named, param-Unnamed)
