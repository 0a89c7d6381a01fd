-- What the operators give on numbers of 64 bits.
use Rattle.std.specs.Prelude.{ℕ, ◌%◌, Bool, not, ◌&&◌, ◌||◌, if◌then◌else◌, Option, Some, None, ℤ, pos, int_lt, int_le, int_rem}
use Rattle.std.specs.Int.{w64, int_wrapping_add, int_wrapping_sub, int_wrapping_mul, int_wrapping_div, int_wrapping_neg, int_bit_and, int_bit_or, int_bit_xor, int_bit_not, int_shl, int_shr, cast_unsigned, int_rem_euclid}
use Rattle.std.specs.Ordering.{int_eq}
use Rattle.c_tree.specs.declared.operator.BinaryOperator.{BinaryOperator}
use Rattle.c_tree.specs.declared.operator.BinaryOperator.TheVariants as op

abbrev pub truth : Bool → ℤ
truth b = if b then pos 1 else pos 0

abbrev pub is_zero : ℤ → Bool
is_zero x = int_eq x (pos 0)

-- a shift uses its amount modulo 64
abbrev pub amount : ℤ → ℕ
amount y = cast_unsigned w64 y % 64

-- nothing where the divisor is 0
abbrev pub unless_zero : ℤ → ℤ → Option ℤ
unless_zero y v = if is_zero y then None else Some v

-- sums wrap; division goes toward 0, and the least number divided by -1 is itself, with remainder 0
abbrev pub computed : BinaryOperator → ℤ → ℤ → Option ℤ
computed op.LogicalOr x y = Some (truth (not (is_zero x) || not (is_zero y)))
computed op.LogicalAnd x y = Some (truth (not (is_zero x) && not (is_zero y)))
computed op.BitwiseOr x y = Some (int_bit_or w64 x y)
computed op.BitwiseExclusiveOr x y = Some (int_bit_xor w64 x y)
computed op.BitwiseAnd x y = Some (int_bit_and w64 x y)
computed op.Equal x y = Some (truth (int_eq x y))
computed op.NotEqual x y = Some (truth (not (int_eq x y)))
computed op.Less x y = Some (truth (int_lt x y))
computed op.Greater x y = Some (truth (int_lt y x))
computed op.LessEqual x y = Some (truth (int_le x y))
computed op.GreaterEqual x y = Some (truth (int_le y x))
computed op.ShiftLeft x y = Some (int_shl w64 x (amount y))
computed op.ShiftRight x y = Some (int_shr x (amount y))
computed op.Add x y = Some (int_wrapping_add w64 x y)
computed op.Subtract x y = Some (int_wrapping_sub w64 x y)
computed op.Multiply x y = Some (int_wrapping_mul w64 x y)
computed op.Divide x y = unless_zero y (int_wrapping_div w64 x y)
computed op.Remainder x y = unless_zero y (int_rem x y)

abbrev pub negated : ℤ → ℤ
negated x = int_wrapping_neg w64 x

abbrev pub complemented : ℤ → ℤ
complemented x = int_bit_not w64 x

-- what a conversion to `char` keeps
abbrev pub as_char : ℤ → ℤ
as_char x = int_rem_euclid x (pos 256)
