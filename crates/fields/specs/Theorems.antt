-- What fields and numbers can be.
use Rattle.std.specs.Prelude.{◌≡◌, ◌≢◌, ℕ, ℤ, ◌^◌, ◌<◌, ◌≤◌, true, List, [], ◌∷◌, ◌++◌, decimal, Some}
use Rattle.std.specs.Fmt.{signed_decimal}
use Rattle.std.specs.Str.{all_ascii_digits}
use Rattle.job.specs.Lines.{lines_of}
use Rattle.fields.specs.Fields.{fields_of, spaced, line, IsPlain, ArePlain}
use Rattle.fields.specs.Numbers.{IsWord, u32_of}
use Rattle.fields.specs.Reading.{Fields, number, small, within, word, end}

pub record FieldLaws : Type 0 where
  -- a line has the fields that it was written with, and is its fields
  pub found : (first : List ℕ) (others : Fields) → IsPlain first → ArePlain others → fields_of (first ++ spaced others) ≡ first ∷ others
  pub text : (text first : List ℕ) (others : Fields) → fields_of text ≡ first ∷ others → text ≡ first ++ spaced others
  -- a text that begins with a line has it as its first line
  pub first_line : (first : List ℕ) (others : Fields) (rest : List ℕ) → IsPlain first → ArePlain others → lines_of (line first others ++ rest) ≡ line first others ∷ lines_of rest
  -- numbers are plain, and of digits where they aren't negative
  pub plain : (n : ℕ) → n < 2 ^ 64 → IsPlain (decimal n)
  pub plain_word : (v : ℤ) → IsWord v → IsPlain (signed_decimal v)
  pub digits : (n : ℕ) → n < 2 ^ 64 → all_ascii_digits (decimal n) ≡ true
  -- and each is read from its text
  pub number_is_read : (n : ℕ) (fs : Fields) → n < 2 ^ 64 → number (decimal n ∷ fs) ≡ Some (n, fs)
  pub small_is_read : (n : ℕ) (fs : Fields) → n < 2 ^ 32 → small (decimal n ∷ fs) ≡ Some (n, fs)
  pub within_is_read : (low high n : ℕ) (fs : Fields) → high < 2 ^ 32 → low ≤ n → n ≤ high → within low high (decimal n ∷ fs) ≡ Some (n, fs)
  pub word_is_read : (v : ℤ) (fs : Fields) → IsWord v → word (signed_decimal v ∷ fs) ≡ Some (v, fs)
  pub u32_is : (n : ℕ) → n < 2 ^ 32 → u32_of (decimal n) ≡ Some n
  pub end_is_read : end [] ≡ Some (tt, [])
