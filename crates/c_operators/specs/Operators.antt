-- The types of expressions: what converts to what, what an lvalue is, and what the operators take and give.
use Rattle.std.specs.Prelude.{ℕ, Bool, true, false, not, ◌&&◌, ◌||◌, if◌then◌else◌, List, Option, Some, None}
use Rattle.std.specs.Option.{option_map, option_or}
use Rattle.c_types.specs.declared.structs.StructDef.{StructDef}
use Rattle.c_types.specs.declared.ty.Ty.{Ty}
use Rattle.c_types.specs.declared.ty.Ty.TheVariants as ty
use Rattle.c_types.specs.Kinds.{decay, is_array, is_function, is_integer, is_object_pointer, is_pointer, is_scalar, is_struct, is_void_pointer, passes, target_of}
use Rattle.c_types.specs.Same.{same}
use Rattle.c_types.specs.Units.{has_units}
use Rattle.c_const.specs.Values.{is_zero}
use Rattle.c_tree.specs.declared.operator.BinaryOperator.{BinaryOperator}
use Rattle.c_tree.specs.declared.operator.BinaryOperator.TheVariants as op
use Rattle.c_tree.specs.declared.operator.UnaryOperator.TheVariants as unary
use Rattle.c_typed.specs.declared.entity.Constant.{Constant}
use Rattle.c_typed.specs.declared.entity.Constant.TheVariants as constant
use Rattle.c_typed.specs.declared.entity.Entity.{Entity}
use Rattle.c_typed.specs.declared.entity.Entity.TheVariants as entity
use Rattle.c_typed.specs.declared.expression.Declared.{Declared}
use Rattle.c_typed.specs.declared.expression.TypedAbstractDeclarator.{TypedAbstractDeclarator}
use Rattle.c_typed.specs.declared.expression.TypedDeclarator.{TypedDeclarator}
use Rattle.c_typed.specs.declared.expression.TypedDirect.{TypedDirect}
use Rattle.c_typed.specs.declared.expression.TypedDirect.TheOpen.{TypedForm-F}
use Rattle.c_typed.specs.declared.expression.TypedExpr.{TypedExpr, out-TypedExpr, roll-TypedExpr}
use Rattle.c_typed.specs.declared.expression.TypedForm.{TypedForm, out-TypedForm}
use Rattle.c_typed.specs.declared.expression.TypedMemberDecl.{TypedMemberDecl}
use Rattle.c_typed.specs.declared.expression.TypedParam.{TypedParam}
use Rattle.c_typed.specs.declared.expression.TypedParams.{TypedParams}
use Rattle.c_typed.specs.declared.expression.TypedSpec.{TypedSpec}
use Rattle.c_typed.specs.declared.expression.TypedSuffix.{TypedSuffix}
use Rattle.c_typed.specs.declared.expression.TypedTypeWord.{TypedTypeWord}

unfoldable pub typed : TypedForm → Ty → Constant → TypedExpr
typed form t c = roll-TypedExpr (record { form = form; ty = t; constant = c })

unfoldable pub type_of : TypedExpr → Ty
type_of e = (out-TypedExpr e).ty

unfoldable pub constant_of : TypedExpr → Constant
constant_of e = (out-TypedExpr e).constant

unfoldable pub form_of : TypedExpr → TypedForm
form_of e = (out-TypedExpr e).form

-- the type of its value: an array or a function decays
unfoldable pub value_type : TypedExpr → Ty
value_type e = decay (type_of e)

unfoldable pub is_scalar_value : TypedExpr → Bool
is_scalar_value e = is_scalar (value_type e)

unfoldable pub is_integer_value : TypedExpr → Bool
is_integer_value e = is_integer (value_type e)

-- a pointer that can be counted up and indexed: its target has units
unfoldable pub is_counted : List StructDef → Ty → Bool
is_counted defs t = passes (has_units defs) (target_of t)

-- ---- implicit conversions

abbrev pub is_zero_constant : Constant → Bool
is_zero_constant (constant.Value x) = is_zero x
is_zero_constant _ = false

-- an integer constant expression of value 0
unfoldable pub is_null : TypedExpr → Bool
is_null e = is_zero_constant (constant_of e)

-- between the same types, between integers, and between `void*` and a pointer whose target is no function
unfoldable pub type_converts : Ty → Ty → Bool
type_converts from to =
    same from to || (is_integer from && is_integer to) || (is_void_pointer from && is_object_pointer to) || (is_object_pointer from && is_void_pointer to)

-- a constant 0 also converts to every pointer
unfoldable pub converts : TypedExpr → Ty → Bool
converts e to = type_converts (value_type e) to || (is_null e && is_pointer to)

-- a target that can take a value
unfoldable pub takes_value : Ty → Bool
takes_value t = is_scalar t || is_struct t

-- ---- lvalues

abbrev pub is_variable : Entity → Bool
is_variable (entity.Global n) = true
is_variable (entity.Local n) = true
is_variable entity.Parameter = true
is_variable _ = false

-- one layer of a typed expression
abbrev pub FormLayer : Type 0
FormLayer = TypedForm-F TypedDirect TypedForm TypedParam TypedParams TypedSpec TypedSuffix Declared TypedAbstractDeclarator TypedDeclarator TypedExpr TypedMemberDecl TypedTypeWord

-- the name of a variable, `*e` and `e[i]` that are no functions, and members; `e.f` asks that `e` is one in its own rule
abbrev pub is_lvalue_at : Ty → FormLayer → Bool
is_lvalue_at t (TypedForm-F.Identifier x e) = is_variable e
is_lvalue_at t (TypedForm-F.Unary unary.Dereference a) = not (is_function t)
is_lvalue_at t (TypedForm-F.Index a i) = true
is_lvalue_at t (TypedForm-F.Member a x n) = true
is_lvalue_at t (TypedForm-F.Arrow a x n) = true
is_lvalue_at t _ = false

unfoldable pub is_lvalue : TypedExpr → Bool
is_lvalue e = is_lvalue_at (type_of e) (out-TypedForm (form_of e))

unfoldable pub is_assignable : TypedExpr → Bool
is_assignable e = is_lvalue e && not (is_array (type_of e))

-- ---- operators, on the types of values

abbrev pub if_fits : Bool → Ty → Option Ty
if_fits test t = if test then Some t else None

unfoldable pub integers : Ty → Ty → Option Ty
integers a b = if_fits (is_integer a && is_integer b) ty.Int

-- two integers, or a counted pointer and an integer in either order
unfoldable pub added : List StructDef → Ty → Ty → Option Ty
added defs a b =
    option_or (integers a b) (option_or (if_fits (is_counted defs a && is_integer b) a) (if_fits (is_integer a && is_counted defs b) b))

-- two integers, a counted pointer and an integer, or two same counted pointers
unfoldable pub subtracted : List StructDef → Ty → Ty → Option Ty
subtracted defs a b =
    option_or (integers a b) (option_or (if_fits (is_counted defs a && is_integer b) a) (if_fits (is_counted defs a && same a b) ty.Int))

-- two integers, or two same pointers
unfoldable pub ordered : Ty → Ty → Option Ty
ordered a b = if_fits ((is_integer a && is_integer b) || (is_pointer a && same a b)) ty.Int

-- What follows takes the types of two values, and for each whether it is a constant 0.

-- the one type to which both are converted to be compared: of integers `int`, of a pointer beside `void*` that, of a
-- constant 0 beside a pointer the pointer's
unfoldable pub common_type : Ty → Bool → Ty → Bool → Option Ty
common_type a a_is_null b b_is_null =
    option_or (integers a b)
    (option_or (if_fits (is_pointer a && same a b) a)
    (option_or (if_fits (is_pointer a && is_void_pointer b) b)
    (option_or (if_fits (is_void_pointer a && is_pointer b) a)
    (option_or (if_fits (is_pointer a && b_is_null) a)
    (if_fits (a_is_null && is_pointer b) b)))))

unfoldable pub compared : Ty → Bool → Ty → Bool → Option Ty
compared a a_is_null b b_is_null = option_map (λ t. ty.Int) (common_type a a_is_null b b_is_null)

-- two scalars
unfoldable pub tested : Ty → Ty → Option Ty
tested a b = if_fits (is_scalar a && is_scalar b) ty.Int

-- the type that a binary operator gives
abbrev pub operated_types : List StructDef → BinaryOperator → Ty → Bool → Ty → Bool → Option Ty
operated_types defs op.LogicalOr a a_is_null b b_is_null = tested a b
operated_types defs op.LogicalAnd a a_is_null b b_is_null = tested a b
operated_types defs op.Equal a a_is_null b b_is_null = compared a a_is_null b b_is_null
operated_types defs op.NotEqual a a_is_null b b_is_null = compared a a_is_null b b_is_null
operated_types defs op.Less a a_is_null b b_is_null = ordered a b
operated_types defs op.Greater a a_is_null b b_is_null = ordered a b
operated_types defs op.LessEqual a a_is_null b b_is_null = ordered a b
operated_types defs op.GreaterEqual a a_is_null b b_is_null = ordered a b
operated_types defs op.Add a a_is_null b b_is_null = added defs a b
operated_types defs op.Subtract a a_is_null b b_is_null = subtracted defs a b
operated_types defs o a a_is_null b b_is_null = integers a b

-- the type of `?:`: of two integers `int`, of two same pointers theirs, of a pointer and a constant 0 the pointer's
unfoldable pub chosen_type : Ty → Bool → Ty → Bool → Option Ty
chosen_type a a_is_null b b_is_null =
    option_or (integers a b)
    (option_or (if_fits (is_pointer a && same a b) a)
    (option_or (if_fits (is_pointer a && b_is_null) a)
    (if_fits (a_is_null && is_pointer b) b)))

-- ---- the same of two expressions

unfoldable pub compared_as : TypedExpr → TypedExpr → Option Ty
compared_as x y = common_type (value_type x) (is_null x) (value_type y) (is_null y)

unfoldable pub operated : List StructDef → BinaryOperator → TypedExpr → TypedExpr → Option Ty
operated defs o x y = operated_types defs o (value_type x) (is_null x) (value_type y) (is_null y)

unfoldable pub chosen : TypedExpr → TypedExpr → Option Ty
chosen x y = chosen_type (value_type x) (is_null x) (value_type y) (is_null y)
