-- The texts of numbers.
use Rattle.std.specs.Prelude.{◌≡◌, ℕ, ◌<◌, true, List, length, slice_index}
use Rattle.std.specs.Str.{all_ascii_digits}

-- digits, at least one, and a leading zero only in 0
pub record IsDecimal (text : List ℕ) : Type 0 where
  pub digits : all_ascii_digits text ≡ true
  pub some : 0 < length text
  pub leading : slice_index text 0 ≡ 48 → length text ≡ 1
