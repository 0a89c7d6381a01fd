-- Which expressions are integer constant expressions, level by level, and their values.
use Rattle.std.specs.Prelude.{ℕ, Bool, true, false, not, if◌then◌else◌, Option, Some, None, ℤ, pos}
use Rattle.c_types.specs.declared.ty.Ty.{Ty, out-Ty}
use Rattle.c_types.specs.declared.ty.Ty.TheOpen.{Ty-F}
use Rattle.c_types.specs.Kinds.{Outer}
use Rattle.c_const.specs.Values.{as_char, complemented, computed, is_zero, negated, truth}
use Rattle.c_tree.specs.declared.operator.BinaryOperator.{BinaryOperator}
use Rattle.c_tree.specs.declared.operator.BinaryOperator.TheVariants as op
use Rattle.c_tree.specs.declared.operator.UnaryOperator.{UnaryOperator}
use Rattle.c_tree.specs.declared.operator.UnaryOperator.TheVariants as unary
use Rattle.c_typed.specs.declared.entity.Constant.{Constant}
use Rattle.c_typed.specs.declared.entity.Constant.TheVariants as constant

-- a zero divisor has no value
abbrev pub or_divides : Option ℤ → Constant
or_divides None = constant.Divides
or_divides (Some v) = constant.Value v

-- an operator that evaluates both operands
abbrev pub of_both : BinaryOperator → Constant → Constant → Constant
of_both o constant.Other b = constant.Other
of_both o a constant.Other = constant.Other
of_both o constant.Divides b = constant.Divides
of_both o a constant.Divides = constant.Divides
of_both o (constant.Value x) (constant.Value y) = or_divides (computed o x y)

-- 1 where it isn't 0
abbrev pub as_truth : Constant → Constant
as_truth (constant.Value v) = constant.Value (truth (not (is_zero v)))
as_truth c = c

-- the first operand decides where it is 0, else the second does
abbrev pub of_and : Constant → Constant → Constant
of_and constant.Other b = constant.Other
of_and a constant.Other = constant.Other
of_and constant.Divides b = constant.Divides
of_and (constant.Value x) b = if is_zero x then constant.Value (pos 0) else as_truth b

-- the first operand decides where it isn't 0
abbrev pub of_or : Constant → Constant → Constant
of_or constant.Other b = constant.Other
of_or a constant.Other = constant.Other
of_or constant.Divides b = constant.Divides
of_or (constant.Value x) b = if is_zero x then as_truth b else constant.Value (pos 1)

abbrev pub of_binary : BinaryOperator → Constant → Constant → Constant
of_binary op.LogicalOr a b = of_or a b
of_binary op.LogicalAnd a b = of_and a b
of_binary o a b = of_both o a b

abbrev pub of_value : (ℤ → ℤ) → Constant → Constant
of_value f (constant.Value x) = constant.Value (f x)
of_value f c = c

abbrev pub of_unary : UnaryOperator → Constant → Constant
of_unary unary.Negate c = of_value negated c
of_unary unary.Complement c = of_value complemented c
of_unary unary.Not c = of_value (λ x. truth (is_zero x)) c
of_unary unary.Address c = constant.Other
of_unary unary.Dereference c = constant.Other

-- only the arm that is chosen is evaluated
abbrev pub of_conditional : Constant → Constant → Constant → Constant
of_conditional constant.Other a b = constant.Other
of_conditional c constant.Other b = constant.Other
of_conditional c a constant.Other = constant.Other
of_conditional constant.Divides a b = constant.Divides
of_conditional (constant.Value x) a b = if is_zero x then b else a

-- a cast to `int` or `char`
abbrev pub of_cast : Outer → Constant → Constant
of_cast Ty-F.Int c = c
of_cast Ty-F.Char c = of_value as_char c
of_cast _ c = constant.Other
