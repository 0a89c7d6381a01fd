-- The walk of definitions of functions.
use Rattle.std.specs.Prelude.{Bool, false, ◌&&◌, List, [], Option, Some, None}
use Rattle.c_layers.specs.declared.layer.Layer.{Layer}
use Rattle.c_layers.specs.declared.layer.Parameter.{Parameter}
use Rattle.c_layers.specs.declared.layer.Shape.{Shape}
use Rattle.c_layers.specs.Shapes.{results_fit, shaped, whole_of}
use Rattle.c_types.specs.declared.ty.FnTy.{FnTy, out-FnTy}
use Rattle.c_types.specs.declared.ty.Ty.{Ty}
use Rattle.c_types.specs.declared.ty.Ty.TheVariants as ty
use Rattle.c_types.specs.Kinds.{function_of, passes}
use Rattle.c_tree.specs.declared.expression.Declarator.{Declarator}
use Rattle.c_tree.specs.declared.statement.Block.{Block}
use Rattle.c_typed.specs.declared.statement.TypedBlock.{TypedBlock}
use Rattle.c_typed.specs.declared.expression.TypedSpec.{TypedSpec}
use Rattle.c_typed.specs.declared.unit.Local.{Local}
use Rattle.c_typed.specs.declared.unit.TypedFn.{TypedFn}
use Rattle.c_scope.specs.declared.rule.Rule.TheVariants as broken
use Rattle.c_scope.specs.BuiltIns.{Name}
use Rattle.c_scope.specs.Definitions.{all_named, bind_parameters, declare_function, mark_defined, may_be_defined}
use Rattle.c_scope.specs.Definitions.{own_parameters}
use Rattle.c_scope.specs.Scopes.{within}
use Rattle.c_scope.specs.Walk.{Walk, ◌>>=◌, ◌>>◌, change, found, pure, rule, world}
use Rattle.c_declarator_rules.specs.declared.declarators.LayeredDeclarator.{LayeredDeclarator}
use Rattle.c_declarator_rules.specs.Rules.{declared}
use Rattle.c_expr_typing.specs.Trees.{typed_declarator}
use Rattle.c_typing.specs.Statements.{typed_block}

-- the list of parameters stands at the name itself, and each has a name
unfoldable pub is_definition : List Layer → Bool
is_definition layers = passes all_named (own_parameters layers)

-- rules 2, 3 and 18 of a definition, and its type; `fits` says whether its form is that of a definition, and the
-- functions in its type return scalars or nothing
unfoldable pub defined_type : Name → Shape → Bool → Walk FnTy
defined_type x s fits = do
  w ← world
  rule broken.Redeclared (may_be_defined w x s)
  t ← found broken.Unsized (whole_of s)
  rule broken.Form fits
  found broken.Form (function_of t)

-- the type that a definition's declarator gives its name
abbrev pub shaped_function : Ty → LayeredDeclarator → Walk FnTy
shaped_function base d = do
  w ← world
  defined_type d.name (shaped w.structs base d.layers) (results_fit w.structs base d.layers && is_definition d.layers)

-- the function is declared and defined from here on, also in its own body
abbrev pub define_function : Ty → LayeredDeclarator → Walk FnTy
define_function base d = do
  f ← shaped_function base d
  declare_function d.name f
  mark_defined d.name
  pure f

-- the same, if there is such a list
abbrev pub bind_own_by : Option (List Parameter) → Walk (Unit {0})
bind_own_by None = pure tt
bind_own_by (Some ps) = bind_parameters ps

-- the parameters of the list at the name become local variables
abbrev pub bind_own : List Layer → Walk (Unit {0})
bind_own layers = bind_own_by (own_parameters layers)

-- the parameters and the outermost block are one scope
abbrev pub function_body : List Layer → FnTy → Block → Walk TypedBlock
function_body layers f b = within (bind_own layers >> typed_block (out-FnTy f).result b false)

-- the variables of the function that ends here
abbrev pub take_locals : Walk (List Local)
take_locals = do
  w ← world
  change (λ w. record w { locals = [] })
  pure w.locals

-- the type, the variables and the body of a function
abbrev pub function_parts : Ty → LayeredDeclarator → Block → Walk (FnTy × List Local × TypedBlock)
function_parts base d b = do
  f ← define_function base d
  body ← function_body d.layers f b
  ls ← take_locals
  pure (f, ls, body)

-- the typed form of a definition
unfoldable pub typed_function : TypedSpec → Ty → Declarator → Block → Walk TypedFn
typed_function s base d b = do
  x ← typed_declarator d
  f ← function_parts base x b
  pure (record { spec = s; declared = declared x.tree (ty.Function f.0); locals = f.1; block = f.2 })
