-- The walk of initialisers: each part in source order, then the rules of the whole.
use Rattle.std.specs.Prelude.{ℕ, zero, suc, Bool, true, not, ◌||◌, if◌then◌else◌, nat_lt, List, [], ◌∷◌, length}
use Rattle.std.specs.Prelude.{Option, Some, None, is_some, slice_get}
use Rattle.std.specs.Option.{option_map, option_and_then}
use Rattle.c_types.specs.declared.structs.StructDef.{StructDef}
use Rattle.c_types.specs.declared.ty.Ty.{Ty, out-Ty}
use Rattle.c_types.specs.declared.ty.Ty.TheOpen.{Ty-F}
use Rattle.c_types.specs.Kinds.{Outer, bound_of, element_of, is_char, passes}
use Rattle.c_types.specs.Structs.{body_of}
use Rattle.c_tree.specs.declared.expression.Direct.TheOpen.{Expr-F}
use Rattle.c_tree.specs.declared.expression.Expr.{Expr, out-Expr}
use Rattle.c_tree.specs.declared.statement.Init.{Init, fold-Init}
use Rattle.c_tree.specs.declared.statement.Init.TheOpen.{Init-F}
use Rattle.c_tree.specs.Fold.{Node, Plain}
use Rattle.c_typed.specs.declared.expression.TypedExpr.{TypedExpr}
use Rattle.c_typed.specs.declared.statement.TypedInit.{TypedInit}
use Rattle.c_typed.specs.declared.statement.TypedInit.TheVariants as init
use Rattle.c_scope.specs.declared.rule.Rule.TheVariants as broken
use Rattle.c_scope.specs.Walk.{Walk, ◌>>=◌, ◌>>◌, each, pure, rule, world}
use Rattle.c_operators.specs.Operators.{converts, takes_value}
use Rattle.c_rules.specs.declared.place.Place.TheVariants.{Value}
use Rattle.c_expr_typing.specs.Trees.{typed_expr}
use Rattle.c_declaration_typing.specs.Leaves.{is_constant_leaf}

-- An initialiser has a target: the type of the part that it gives, or None where there is no part for it.

-- ---- strings

-- the bytes of a string
abbrev pub text_at : Node Plain Expr-F → Option (List ℕ)
text_at (Expr-F.Text bytes) = Some bytes
text_at _ = None

-- the bytes of an expression that is a string alone
unfoldable pub text_of : Expr → Option (List ℕ)
text_of e = text_at (out-Expr e)

-- how many units of a char array a string may fill
unfoldable pub char_bound : Ty → Option ℕ
char_bound t = if passes is_char (element_of t) then bound_of t else None

-- a string gives a char array its units, with the final 0; it is no object
abbrev pub given_text : List ℕ → ℕ → Walk TypedInit
given_text bytes n = rule broken.Form (nat_lt (length bytes) n) >> pure (init.Text bytes)

-- ---- other expressions

-- only a part that takes a value asks for a conversion, and only then a global's whether the value is constant
unfoldable pub value_rules : Bool → Ty → TypedExpr → Walk (Unit {0})
value_rules is_global t x = do
  rule broken.Form (takes_value t)
  rule broken.Unconverted (converts x t)
  rule broken.NotConstant (not is_global || is_constant_leaf x)

-- without a part for it nothing is asked
abbrev pub leaf_rules : Bool → Option Ty → TypedExpr → Walk (Unit {0})
leaf_rules is_global None x = pure tt
leaf_rules is_global (Some t) x = value_rules is_global t x

-- an expression that gives a value
abbrev pub given_value : Bool → Option Ty → Expr → Walk TypedInit
given_value is_global to e = do
  x ← typed_expr e Value
  leaf_rules is_global to x
  pure (init.Expr x)

-- a string to a char array, else a value
abbrev pub given_by : Bool → Option Ty → Expr → Option (List ℕ) → Option ℕ → Walk TypedInit
given_by is_global to e (Some bytes) (Some n) = given_text bytes n
given_by is_global to e _ _ = given_value is_global to e

-- an initialiser that is an expression
abbrev pub given : Bool → Option Ty → Expr → Walk TypedInit
given is_global to e = given_by is_global to e (text_of e) (option_and_then char_bound to)

-- ---- braces

-- the type of a member of a struct that has a body
abbrev pub member_type : List StructDef → ℕ → ℕ → Option Ty
member_type defs s i = option_map (λ m. m.ty) (option_and_then (λ ms. slice_get ms i) (body_of defs s))

-- an element that the array has, or a member of the struct
abbrev pub part_at : List StructDef → ℕ → Outer → Option Ty
part_at defs i (Ty-F.Array t n) = if nat_lt i n then Some t else None
part_at defs i (Ty-F.Struct s) = member_type defs s i
part_at defs i _ = None

-- the type of a part
unfoldable pub part_of : List StructDef → ℕ → Ty → Option Ty
part_of defs i t = part_at defs i (out-Ty t)

-- the walk of an initialiser, for a target
abbrev pub OfInit : Type 0
OfInit = Option Ty → Walk TypedInit

-- the walk of one part
abbrev pub one_part : ℕ → Option Ty → OfInit → Walk TypedInit
one_part i to p = do
  w ← world
  p (option_and_then (part_of w.structs i) to)

-- the walks of parts, from this one on
abbrev pub parts_from : ℕ → Option Ty → List OfInit → List (Walk TypedInit)
parts_from i to [] = []
parts_from i to (p ∷ ps) = one_part i to p ∷ parts_from (suc i) to ps

-- the last of so many parts is one of the type, so each is
unfoldable pub has_parts : List StructDef → ℕ → Ty → Bool
has_parts defs zero t = true
has_parts defs (suc n) t = is_some (part_of defs n t)

-- each of so many parts has a target, if the whole has one
abbrev pub parts_rule : Option Ty → ℕ → Walk (Unit {0})
parts_rule None n = pure tt
parts_rule (Some t) n = world >>= (λ w. rule broken.Form (has_parts w.structs n t))

-- parts in source order, then the rule of the whole
abbrev pub braces : Option Ty → List OfInit → Walk TypedInit
braces to parts = do
  xs ← each (parts_from 0 to parts)
  parts_rule to (length xs)
  pure (init.Braces xs)

-- ---- whole initialisers

-- an expression, or parts in braces
abbrev pub init_step : Bool → Init-F OfInit → OfInit
init_step is_global (Init-F.Expr e) to = given is_global to e
init_step is_global (Init-F.Braces parts) to = braces to parts

-- the typed form of an initialiser of a global variable, or of a local one
unfoldable pub typed_init : Bool → Init → Option Ty → Walk TypedInit
typed_init is_global = fold-Init OfInit (init_step is_global)
