-- The rows of numbers, integer operators, comparisons and pointer arithmetic, over the code of their operands.
use Rattle.std.specs.Prelude.{ℕ, ℤ, pos, Bool, if◌then◌else◌, List, unwrap_or}
use Rattle.c_types.specs.declared.structs.StructDef.{StructDef}
use Rattle.c_types.specs.declared.ty.Ty.{Ty}
use Rattle.c_types.specs.declared.ty.Ty.TheVariants as ty
use Rattle.c_types.specs.Kinds.{is_pointer, target_of}
use Rattle.c_operators.specs.Operators.{common_type, operated_types}
use Rattle.c_tree.specs.declared.operator.BinaryOperator.{BinaryOperator}
use Rattle.c_tree.specs.declared.operator.BinaryOperator.TheVariants as binary
use Rattle.core_ir.specs.declared.instr.Instr.TheVariants.{Const, AddrG, AddrF, GetLocal, Binary, Unary, PtrAdd}
use Rattle.core_ir.specs.declared.operator.Operator.{Operator}
use Rattle.core_ir.specs.declared.operator.Operator.TheVariants as operator
use Rattle.elab_rows.specs.declared.operation.Last.{Last}
use Rattle.elab_rows.specs.declared.operation.Last.TheVariants as last
use Rattle.elab_rows.specs.declared.operation.Operation.{Operation}
use Rattle.elab_rows.specs.Choices.{and_code, or_code}
use Rattle.elab_rows.specs.Made.{Code, combined, converted, extended, single}
use Rattle.elab_rows.specs.Units.{units}

-- ---- values without parts

-- number, `sizeof` | Const
abbrev pub number : ℤ → Code
number v = single (λ d. Const d v)

-- string | AddrG of its object
abbrev pub string : ℕ → Code
string g = single (λ d. AddrG d g)

-- function name | AddrF
abbrev pub function_name : ℕ → Code
function_name f = single (λ d. AddrF d f)

-- slot local as value | GetLocal
abbrev pub slot_value : ℕ → Code
slot_value s = single (λ d. GetLocal d s)

-- ---- operators

-- integer operators, comparisons | V, converted; V, converted; Binary
abbrev pub binary_code : Operator → Code → Code → Code
binary_code o a b = combined (λ d x y. Binary d o x y) a b

-- `-`, `~`, `!` | V; Unary
abbrev pub unary_code : Operator → Code → Code
unary_code o a = extended (λ d x. Unary d o x) a

-- pointer plus integer | V; V, converted; PtrAdd
abbrev pub pointer_plus : ℕ → Code → Code → Code
pointer_plus n p i = combined (λ d x y. PtrAdd d x y n) p i

-- integer plus pointer | V, converted; V; PtrAdd
abbrev pub plus_pointer : ℕ → Code → Code → Code
plus_pointer n i p = combined (λ d x y. PtrAdd d y x n) i p

-- pointer minus integer | V; V, converted; Unary minus; PtrAdd
abbrev pub pointer_minus : ℕ → Code → Code → Code
pointer_minus n p i = pointer_plus n p (unary_code operator.Subtract i)

-- pointer minus pointer | V; V; Binary minus; Const units; Binary divide
abbrev pub pointer_difference : ℕ → Code → Code → Code
pointer_difference n p q = binary_code operator.Divide (binary_code operator.Subtract p q) (number (pos n))

-- ---- which row an operator has

-- an operand: the type of its value, whether it is a constant 0, and its code
pub record Operand : Type 0 where
  pub ty : Ty
  pub is_null : Bool
  pub code : Code

-- V, converted
abbrev pub converted_to : Ty → Operand → Code
converted_to t x = converted x.ty t x.code

abbrev pub operator_of : BinaryOperator → Operator
operator_of binary.BitwiseOr = operator.BitwiseOr
operator_of binary.BitwiseExclusiveOr = operator.BitwiseExclusiveOr
operator_of binary.BitwiseAnd = operator.BitwiseAnd
operator_of binary.Equal = operator.Equal
operator_of binary.NotEqual = operator.NotEqual
operator_of binary.Less = operator.Less
operator_of binary.Greater = operator.Greater
operator_of binary.LessEqual = operator.LessEqual
operator_of binary.GreaterEqual = operator.GreaterEqual
operator_of binary.ShiftLeft = operator.ShiftLeft
operator_of binary.ShiftRight = operator.ShiftRight
operator_of binary.Add = operator.Add
operator_of binary.Subtract = operator.Subtract
operator_of binary.Multiply = operator.Multiply
operator_of binary.Divide = operator.Divide
operator_of binary.Remainder = operator.Remainder
operator_of _ = operator.Not

-- the one type to which both operands are converted: `int` of integers
unfoldable pub operand_type : Operand → Operand → Ty
operand_type x y = unwrap_or (common_type x.ty x.is_null y.ty y.is_null) ty.Int

-- the units of what a pointer points to
unfoldable pub target_units : List StructDef → Ty → ℕ
target_units defs t = units defs (unwrap_or (target_of t) ty.Int)

-- both converted to one type
abbrev pub plain : BinaryOperator → Operand → Operand → Operation
plain o x y = record { first = operand_type x y; second = operand_type x y; last = last.Binary (operator_of o) }

-- a pointer is converted to its own type, so not at all
abbrev pub sum : List StructDef → Operand → Operand → Operation
sum defs x y =
    if is_pointer x.ty then record { first = x.ty; second = ty.Int; last = last.PointerPlus (target_units defs x.ty) }
    else if is_pointer y.ty then record { first = ty.Int; second = y.ty; last = last.PlusPointer (target_units defs y.ty) }
    else plain binary.Add x y

abbrev pub difference : List StructDef → Operand → Operand → Operation
difference defs x y =
    if is_pointer y.ty then record { first = x.ty; second = y.ty; last = last.PointerDifference (target_units defs x.ty) }
    else if is_pointer x.ty then record { first = x.ty; second = ty.Int; last = last.PointerMinus (target_units defs x.ty) }
    else plain binary.Subtract x y

-- to which types the operands of an operator are converted, and its row
abbrev pub operation_of : List StructDef → BinaryOperator → Operand → Operand → Operation
operation_of defs binary.Add x y = sum defs x y
operation_of defs binary.Subtract x y = difference defs x y
operation_of defs o x y = plain o x y

-- the rows, over operands that are converted
abbrev pub last_code : Last → Code → Code → Code
last_code (last.Binary o) a b = binary_code o a b
last_code (last.PointerPlus n) a b = pointer_plus n a b
last_code (last.PlusPointer n) a b = plus_pointer n a b
last_code (last.PointerMinus n) a b = pointer_minus n a b
last_code (last.PointerDifference n) a b = pointer_difference n a b

abbrev pub operation_code : Operation → Operand → Operand → Code
operation_code r x y = last_code r.last (converted_to r.first x) (converted_to r.second y)

-- an operator that has both values
abbrev pub operated : List StructDef → BinaryOperator → Operand → Operand → Code
operated defs o x y = operation_code (operation_of defs o x y) x y

-- the code of a binary operator
abbrev pub binary_row : List StructDef → BinaryOperator → Operand → Operand → Code
binary_row defs binary.LogicalAnd x y = and_code x.code y.code
binary_row defs binary.LogicalOr x y = or_code x.code y.code
binary_row defs o x y = operated defs o x y

-- the type that it gives
unfoldable pub operated_type : List StructDef → BinaryOperator → Operand → Operand → Ty
operated_type defs o x y = unwrap_or (operated_types defs o x.ty x.is_null y.ty y.is_null) ty.Int
