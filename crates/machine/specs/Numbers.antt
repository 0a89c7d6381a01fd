-- Numbers of 64 bits: what operators give, and what conversions and loads keep.
use Rattle.std.specs.Prelude.{ℕ, ℤ, pos, negsuc, ◌-◌, ◌*◌, ◌%◌, ◌^◌, Bool, true, false, not, if◌then◌else◌, Option, Some, None, int_lt, int_le, int_rem}
use Rattle.std.specs.Int.{w64, int_wrapping_add, int_wrapping_sub, int_wrapping_mul, int_wrapping_div, int_wrapping_neg, int_bit_and, int_bit_or, int_bit_xor, int_bit_not, int_shl, int_shr, cast_unsigned}
use Rattle.std.specs.Ordering.{int_eq}
use Rattle.core_ir.specs.declared.operator.Operator.{Operator}
use Rattle.core_ir.specs.declared.operator.Operator.TheVariants as op
use Rattle.machine.specs.declared.code.ScalarKind.{ScalarKind}
use Rattle.machine.specs.declared.code.ScalarKind.TheVariants as kind

-- ---- 32 bits

-- a number modulo 2^32
abbrev pub low_word : ℤ → ℕ
low_word (pos n) = n % 2 ^ 32
low_word (negsuc n) = 2 ^ 32 - 1 - n % 2 ^ 32

-- ---- operators

abbrev pub truth : Bool → ℤ
truth b = if b then pos 1 else pos 0

abbrev pub is_zero : ℤ → Bool
is_zero x = int_eq x (pos 0)

-- a shift uses its amount modulo 64
abbrev pub amount : ℤ → ℕ
amount y = cast_unsigned w64 y % 64

-- nothing where the divisor is 0
abbrev pub unless_zero : ℤ → ℤ → Option ℤ
unless_zero y v = if is_zero y then None else Some v

-- Sums wrap; division goes toward 0, and the least number divided by -1 is itself, with remainder 0.
abbrev pub computed : Operator → ℤ → ℤ → Option ℤ
computed op.Add x y = Some (int_wrapping_add w64 x y)
computed op.Subtract x y = Some (int_wrapping_sub w64 x y)
computed op.Multiply x y = Some (int_wrapping_mul w64 x y)
computed op.Divide x y = unless_zero y (int_wrapping_div w64 x y)
computed op.Remainder x y = unless_zero y (int_rem x y)
computed op.BitwiseAnd x y = Some (int_bit_and w64 x y)
computed op.BitwiseOr x y = Some (int_bit_or w64 x y)
computed op.BitwiseExclusiveOr x y = Some (int_bit_xor w64 x y)
computed op.ShiftLeft x y = Some (int_shl w64 x (amount y))
computed op.ShiftRight x y = Some (int_shr x (amount y))
computed op.Less x y = Some (truth (int_lt x y))
computed op.Greater x y = Some (truth (int_lt y x))
computed op.LessEqual x y = Some (truth (int_le x y))
computed op.GreaterEqual x y = Some (truth (int_le y x))
computed op.Equal x y = Some (truth (int_eq x y))
computed op.NotEqual x y = Some (truth (not (int_eq x y)))
-- valid code has no other
computed op.Complement x y = Some (pos 0)
computed op.Not x y = Some (pos 0)

abbrev pub computed_one : Operator → ℤ → ℤ
computed_one op.Complement x = int_bit_not w64 x
computed_one op.Not x = truth (is_zero x)
computed_one _ x = int_wrapping_neg w64 x

-- ---- kinds

-- what of a number a value of this kind has
abbrev pub truncated : ScalarKind → ℤ → ℤ
truncated kind.Int n = n
truncated kind.Char n = pos (low_word n % 256)
truncated _ n = pos (low_word n)

-- its values stand in the safe store
abbrev pub is_kept : ScalarKind → Bool
is_kept kind.Code = true
is_kept kind.Protected = true
is_kept _ = false

-- so many units for each of so many elements, modulo 2^32
abbrev pub span : ℤ → ℕ → ℕ
span i units = (low_word i * units) % 2 ^ 32
