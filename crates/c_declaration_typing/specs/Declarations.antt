-- The walk of declarations and of what defines types: each declarator in source order, then the rules of its name.
use Rattle.std.specs.Prelude.{ℕ, ◌+◌, Bool, true, false, ◌||◌, if◌then◌else◌, nat_le, List, length, map}
use Rattle.std.specs.Prelude.{Option, Some, None}
use Rattle.std.specs.Option.{option_map}
use Rattle.c_layers.specs.declared.layer.Shape.{Shape}
use Rattle.c_layers.specs.declared.layer.Shape.TheVariants as shape
use Rattle.c_layers.specs.Shapes.{is_function_shape, limited, results_fit, shaped, whole_of}
use Rattle.c_types.specs.declared.ty.FnTy.{FnTy}
use Rattle.c_types.specs.declared.ty.Ty.{Ty}
use Rattle.c_types.specs.declared.ty.Ty.TheVariants as ty
use Rattle.c_types.specs.Kinds.{function_of, is_char}
use Rattle.c_types.specs.Units.{has_units, most_units}
use Rattle.c_tree.specs.declared.expression.Declarator.{Declarator}
use Rattle.c_tree.specs.declared.statement.Decl.{Decl}
use Rattle.c_tree.specs.declared.statement.Init.{Init, out-Init}
use Rattle.c_tree.specs.declared.statement.Init.TheOpen.{Init-F}
use Rattle.c_tree.specs.declared.statement.InitDeclarator.{InitDeclarator}
use Rattle.c_typed.specs.declared.entity.Entity.{Entity}
use Rattle.c_typed.specs.declared.expression.Declared.{Declared}
use Rattle.c_typed.specs.declared.statement.TypedDecl.{TypedDecl}
use Rattle.c_typed.specs.declared.statement.TypedInit.{TypedInit}
use Rattle.c_typed.specs.declared.statement.TypedInitDeclarator.{TypedInitDeclarator}
use Rattle.c_scope.specs.declared.rule.Rule.TheVariants as broken
use Rattle.c_scope.specs.declared.scopes.Meaning.TheVariants as means
use Rattle.c_scope.specs.BuiltIns.{Name}
use Rattle.c_scope.specs.Declarations.{is_free, may_be_declared}
use Rattle.c_scope.specs.Definitions.{declare_function, declare_variable}
use Rattle.c_scope.specs.Scopes.{bind}
use Rattle.c_scope.specs.Walk.{Walk, ◌>>=◌, ◌>>◌, each, found, maybe, pure, rule, world}
use Rattle.c_declarator_rules.specs.declared.declarators.LayeredDeclarator.{LayeredDeclarator}
use Rattle.c_declarator_rules.specs.Rules.{declared}
use Rattle.c_expr_typing.specs.Trees.{typed_declarator, typed_spec}
use Rattle.c_declaration_typing.specs.Initialisers.{text_of, typed_init}

-- ---- the bound that an initialiser gives an array

-- a string with its final 0, to an array of `char`
abbrev pub text_bound : Bool → Option (List ℕ) → Option ℕ
text_bound true (Some bytes) = Some (length bytes + 1)
text_bound _ _ = None

-- braces give the number of their parts
abbrev pub given_at : Ty → Init-F Init → Option ℕ
given_at t (Init-F.Braces parts) = Some (length parts)
given_at t (Init-F.Expr e) = text_bound (is_char t) (text_of e)

-- the bound that an initialiser gives an array of this element
unfoldable pub given_bound : Ty → Init → Option ℕ
given_bound t i = given_at t (out-Init i)

-- a bound is at most 65,536
abbrev pub allowed : Option ℕ → Option ℕ
allowed None = None
allowed (Some n) = if nat_le n most_units then Some n else None

-- an array of this element with this bound, if there is one
abbrev pub bounded : Ty → Option ℕ → Shape
bounded t None = shape.Broken false
bounded t (Some n) = limited (ty.Array t n)

-- an array of this element with the bound that its initialiser gives
abbrev pub closed : Ty → Option Init → Shape
closed t None = shape.Broken false
closed t (Some i) = bounded t (allowed (given_bound t i))

-- an array without a bound takes it from its initialiser
abbrev pub completed : Option Init → Shape → Shape
completed i (shape.Open t) = closed t i
completed i s = s

-- ---- variables and functions

-- what is asked of a variable's or function's type; `fits` says whether the functions in it return scalars or nothing
unfoldable pub type_rules : Bool → Ty → Bool → Walk (Unit {0})
type_rules is_function t fits = do
  w ← world
  rule broken.Unsized (is_function || has_units w.structs t)
  rule broken.Form fits

-- rules 2, 3 and 18 of a declared name, and its type
unfoldable pub declared_type : Name → Shape → Bool → Walk Ty
declared_type x s fits = do
  w ← world
  rule broken.Redeclared (may_be_declared w x s)
  t ← found broken.Unsized (whole_of s)
  type_rules (is_function_shape s) t fits
  pure t

-- the type that a declarator gives its name
abbrev pub shaped_type : Ty → LayeredDeclarator → Option Init → Walk Ty
shaped_type base d i = do
  w ← world
  declared_type d.name (completed i (shaped w.structs base d.layers)) (results_fit w.structs base d.layers)

-- a function, or a variable of another type
abbrev pub declare_by : Bool → Name → Ty → Option FnTy → Walk Entity
declare_by is_global x t (Some f) = declare_function x f
declare_by is_global x t None = declare_variable is_global x t

-- the type of a declared name, and what it stands for
abbrev pub declare : Bool → Ty → LayeredDeclarator → Option Init → Walk (Ty × Entity)
declare is_global base d i = do
  t ← shaped_type base d i
  e ← declare_by is_global d.name t (function_of t)
  pure (t, e)

-- the initialiser of a variable of this type, if it has one
abbrev pub optional_init : Bool → Ty → Option Init → Walk (Option TypedInit)
optional_init is_global t o = maybe (option_map (λ i. typed_init is_global i (Some t)) o)

-- a name is in scope in its own initialiser
abbrev pub declare_all : Bool → Ty → LayeredDeclarator → Option Init → Walk (Ty × Entity × Option TypedInit)
declare_all is_global base d o = do
  e ← declare is_global base d o
  i ← optional_init is_global e.0 o
  pure (e.0, e.1, i)

-- the typed form of a declarator with its initialiser
unfoldable pub typed_init_declarator : Bool → Ty → InitDeclarator → Walk TypedInitDeclarator
typed_init_declarator is_global base d = do
  x ← typed_declarator d.declarator
  e ← declare_all is_global base x d.init
  pure (record { declared = declared x.tree e.0; entity = e.1; init = e.2 })

-- a struct's body stands only in a declaration that is an item
unfoldable pub typed_decl : Bool → Decl → Walk TypedDecl
typed_decl is_global d = do
  base ← typed_spec d.spec is_global
  ds ← each (map (typed_init_declarator is_global base.1) d.declarators)
  pure (record { spec = base.0; declarators = ds })

-- ---- names of types

-- rules 2, 3 and 18 of a type's name, and the type
unfoldable pub named_type : Name → Shape → Bool → Walk Ty
named_type x s fits = do
  w ← world
  rule broken.Redeclared (is_free w x)
  t ← found broken.Unsized (whole_of s)
  rule broken.Form fits
  pure t

-- the type that a declarator gives the name of a type
abbrev pub shaped_name : Ty → LayeredDeclarator → Walk Ty
shaped_name base d = do
  w ← world
  named_type d.name (shaped w.structs base d.layers) (results_fit w.structs base d.layers)

-- the name is bound behind its declarator
abbrev pub declare_type : Ty → LayeredDeclarator → Walk Ty
declare_type base d = do
  t ← shaped_name base d
  bind d.name (means.TypeName t)
  pure t

-- the typed form of a declarator of a type name
unfoldable pub typed_type : Ty → Declarator → Walk Declared
typed_type base d = do
  x ← typed_declarator d
  t ← declare_type base x
  pure (declared x.tree t)
