-- The number that a text is written for. Each number has one text: decimal, without leading zeros, and with a `-` in front of a negative one.
use Rattle.std.specs.Prelude.{ℕ, zero, suc, ℤ, pos, negsuc, ◌^◌, ◌<◌, ◌&&◌, Bool, cond, nat_eq, nat_lt, List, drop, slice_index, decimal, Option, Some, None}
use Rattle.std.specs.Fmt.{signed_decimal}
use Rattle.std.specs.Str.{bytes_eq}
use Rattle.std.specs.Str.Parse.{digits_value}

-- a word has 64 bits
abbrev pub IsWord : ℤ → Type 0
IsWord (pos n) = n < 2 ^ 63
IsWord (negsuc n) = n < 2 ^ 63

abbrev pub is_word : ℤ → Bool
is_word (pos n) = nat_lt n (2 ^ 63)
is_word (negsuc n) = nat_lt n (2 ^ 63)

abbrev pub minus : ℕ → ℤ
minus zero = pos 0
minus (suc n) = negsuc n

-- what the digits of a text are worth
abbrev pub worth : List ℕ → ℤ
worth text = cond (nat_eq (slice_index text 0) 45) (minus (digits_value 10 (drop 1 text))) (pos (digits_value 10 text))

-- the number below a bound that has this text
abbrev pub number_below : ℕ → List ℕ → Option ℕ
number_below bound text =
    cond (nat_lt (digits_value 10 text) bound && bytes_eq (decimal (digits_value 10 text)) text)
    (Some (digits_value 10 text)) None

unfoldable pub number_of : List ℕ → Option ℕ
number_of text = number_below (2 ^ 64) text

unfoldable pub u32_of : List ℕ → Option ℕ
u32_of text = number_below (2 ^ 32) text

-- the word that has this text
unfoldable pub word_of : List ℕ → Option ℤ
word_of text = cond (is_word (worth text) && bytes_eq (signed_decimal (worth text)) text) (Some (worth text)) None
