-- The marks and levels of expressions.
use Rattle.std.specs.Prelude.{ℕ, zero, suc, List, [], ◌∷◌, ◌++◌, map}
use Rattle.c_tokens.specs.declared.token.Kind.{Kind}
use Rattle.c_tokens.specs.declared.token.Kind.TheVariants.{Mark}
use Rattle.c_tokens.specs.declared.token.Mark.{Mark as MarkName}
use Rattle.c_tokens.specs.declared.token.Mark.TheVariants as mark
use Rattle.c_tokens.specs.declared.token.Token.{Token}
use Rattle.c_tree.specs.declared.operator.AssignOperator.{AssignOperator}
use Rattle.c_tree.specs.declared.operator.AssignOperator.TheVariants as assign
use Rattle.c_tree.specs.declared.operator.BinaryOperator.{BinaryOperator}
use Rattle.c_tree.specs.declared.operator.BinaryOperator.TheVariants as binary
use Rattle.c_tree.specs.declared.operator.UnaryOperator.{UnaryOperator}
use Rattle.c_tree.specs.declared.operator.UnaryOperator.TheVariants as unary

-- what tokens are, without their places
abbrev pub Kinds : Type 0
Kinds = List Kind

abbrev pub kinds_of : List Token → Kinds
kinds_of tokens = map (λ t. t.kind) tokens

-- these kinds in this many pairs of parentheses
abbrev pub wrapped : ℕ → Kinds → Kinds
wrapped zero ts = ts
wrapped (suc n) ts = Mark mark.LeftParenthesis ∷ wrapped n ts ++ Mark mark.RightParenthesis ∷ []

-- at most this many pairs stand directly round one thing
abbrev pub greatest_pairs : ℕ
greatest_pairs = 8

-- an item's nodes are at most this many deep
abbrev pub greatest_depth : ℕ
greatest_depth = 200

abbrev pub assign_mark : AssignOperator → MarkName
assign_mark assign.Assign = mark.Assign
assign_mark assign.Add = mark.PlusAssign
assign_mark assign.Subtract = mark.MinusAssign
assign_mark assign.Multiply = mark.StarAssign
assign_mark assign.Divide = mark.SlashAssign
assign_mark assign.Remainder = mark.PercentAssign
assign_mark assign.BitwiseAnd = mark.AmpersandAssign
assign_mark assign.BitwiseOr = mark.BarAssign
assign_mark assign.BitwiseExclusiveOr = mark.CaretAssign
assign_mark assign.ShiftLeft = mark.ShiftLeftAssign
assign_mark assign.ShiftRight = mark.ShiftRightAssign

abbrev pub binary_mark : BinaryOperator → MarkName
binary_mark binary.LogicalOr = mark.LogicalOr
binary_mark binary.LogicalAnd = mark.LogicalAnd
binary_mark binary.BitwiseOr = mark.Bar
binary_mark binary.BitwiseExclusiveOr = mark.Caret
binary_mark binary.BitwiseAnd = mark.Ampersand
binary_mark binary.Equal = mark.Equal
binary_mark binary.NotEqual = mark.NotEqual
binary_mark binary.Less = mark.Less
binary_mark binary.Greater = mark.Greater
binary_mark binary.LessEqual = mark.LessEqual
binary_mark binary.GreaterEqual = mark.GreaterEqual
binary_mark binary.ShiftLeft = mark.ShiftLeft
binary_mark binary.ShiftRight = mark.ShiftRight
binary_mark binary.Add = mark.Plus
binary_mark binary.Subtract = mark.Minus
binary_mark binary.Multiply = mark.Star
binary_mark binary.Divide = mark.Slash
binary_mark binary.Remainder = mark.Percent

abbrev pub unary_mark : UnaryOperator → MarkName
unary_mark unary.Address = mark.Ampersand
unary_mark unary.Dereference = mark.Star
unary_mark unary.Negate = mark.Minus
unary_mark unary.Complement = mark.Tilde
unary_mark unary.Not = mark.Exclamation

-- The levels of expressions, from the loosest to the tightest: the rules of the grammar.
abbrev pub assign_level : ℕ
assign_level = 0

abbrev pub conditional_level : ℕ
conditional_level = 1

abbrev pub cast_level : ℕ
cast_level = 12

abbrev pub unary_level : ℕ
unary_level = 13

abbrev pub postfix_level : ℕ
postfix_level = 14

abbrev pub primary_level : ℕ
primary_level = 15

-- the binary levels stand between
abbrev pub binary_level : BinaryOperator → ℕ
binary_level binary.LogicalOr = 2
binary_level binary.LogicalAnd = 3
binary_level binary.BitwiseOr = 4
binary_level binary.BitwiseExclusiveOr = 5
binary_level binary.BitwiseAnd = 6
binary_level binary.Equal = 7
binary_level binary.NotEqual = 7
binary_level binary.Less = 8
binary_level binary.Greater = 8
binary_level binary.LessEqual = 8
binary_level binary.GreaterEqual = 8
binary_level binary.ShiftLeft = 9
binary_level binary.ShiftRight = 9
binary_level binary.Add = 10
binary_level binary.Subtract = 10
binary_level binary.Multiply = 11
binary_level binary.Divide = 11
binary_level binary.Remainder = 11

abbrev pub loosest_binary : ℕ
loosest_binary = 2
