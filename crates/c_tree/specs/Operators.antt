-- How operators go together.
use Rattle.std.specs.Prelude.{Bool, true, false, Option, Some, None}
use Rattle.c_tree.specs.declared.operator.AssignOperator.{AssignOperator}
use Rattle.c_tree.specs.declared.operator.AssignOperator.TheVariants as assign
use Rattle.c_tree.specs.declared.operator.BinaryOperator.{BinaryOperator}
use Rattle.c_tree.specs.declared.operator.BinaryOperator.TheVariants as binary

-- the operator in front of the `=`, whose result is assigned
abbrev pub binary_operator : AssignOperator → Option BinaryOperator
binary_operator assign.Assign = None
binary_operator assign.Add = Some binary.Add
binary_operator assign.Subtract = Some binary.Subtract
binary_operator assign.Multiply = Some binary.Multiply
binary_operator assign.Divide = Some binary.Divide
binary_operator assign.Remainder = Some binary.Remainder
binary_operator assign.BitwiseAnd = Some binary.BitwiseAnd
binary_operator assign.BitwiseOr = Some binary.BitwiseOr
binary_operator assign.BitwiseExclusiveOr = Some binary.BitwiseExclusiveOr
binary_operator assign.ShiftLeft = Some binary.ShiftLeft
binary_operator assign.ShiftRight = Some binary.ShiftRight

-- `&&` and `||`, whose second operand isn't always evaluated
abbrev pub is_logical : BinaryOperator → Bool
is_logical binary.LogicalAnd = true
is_logical binary.LogicalOr = true
is_logical _ = false
