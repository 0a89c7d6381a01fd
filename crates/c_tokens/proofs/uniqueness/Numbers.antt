-- A number's text has one value, and its bytes are letters and digits from a digit on.
use Rattle.std.proofs.Common.{◌≡◌, ℕ, ◌^◌, ◌<◌, ◌≤◌, inl, inr, true, ◌||◌, nat_le, IsTrue, List, ◌∷◌, length, get_or, refl, sym, ap, ◌∙◌, subst, ⊎_elim, arith}
use Rattle.std.specs.Fmt.{decimal}
use Rattle.std.specs.List.{All}
use Rattle.std.specs.Int.{IsInRange}
use Rattle.std.specs.Str.Parse.{digits_value}
use Rattle.std.proofs.lemmas.Bool.{or_left, or_right, and_parts, and_from, le-leb, leb-true, cases_Bool, cond-false, false≢true}
use Rattle.std.proofs.lemmas.Str.Parse.{IsNumeralModel, numerals_by_value, tells_by_index}
use Rattle.std.proofs.lemmas.Fmt.{digits_decimal, decimal_nonempty, decimal_injective}
use Rattle.std.proofs.lemmas.List.Elements.{All-cons, All-head, All-tail, All-weaker, All-from_get_or}
use Rattle.c_tokens.specs.Bytes.{is_between, is_digit, is_name_start, is_word_byte, begins}
use Rattle.c_tokens.specs.Spell.{IsNumber, IsHexDigit, hex_value}
use Rattle.c_tokens.proofs.ListLemmas.{begins_from_all}

is_between_from : (low high b : ℕ) → low ≤ b → b ≤ high → is_between low high b ≡ true
is_between_from low high b from to = and_from (nat_le low b) (nat_le b high) (le-leb low b from) (le-leb b high to)

is_between_tells : (low high b : ℕ) → is_between low high b ≡ true → (low ≤ b) × (b ≤ high)
is_between_tells low high b e =
    let parts = and_parts (nat_le low b) (nat_le b high) e in
    (leb-true low b parts.0, leb-true b high parts.1)

pub is_word_byte-digit : (b : ℕ) → is_digit b ≡ true → is_word_byte b ≡ true
is_word_byte-digit b e = or_right (is_name_start b) (is_digit b) e

hex_is_word : (b : ℕ) → IsHexDigit b → is_word_byte b ≡ true
hex_is_word b hex =
    let lower : is_between 97 102 b ≡ true → is_word_byte b ≡ true = λ e.
    let range = is_between_tells 97 102 b e in
    or_left (is_name_start b) (is_digit b) (or_left (is_between 65 90 b || is_between 97 122 b) _ (or_right (is_between 65 90 b) _ (is_between_from 97 122 b (omega arith) (omega arith)))) in
    let upper : is_between 65 70 b ≡ true → is_word_byte b ≡ true = λ e.
    let range = is_between_tells 65 70 b e in
    or_left (is_name_start b) (is_digit b) (or_left (is_between 65 90 b || is_between 97 122 b) _ (or_left (is_between 65 90 b) _ (is_between_from 65 90 b (omega arith) (omega arith)))) in
    ⊎_elim (is_word_byte-digit b)
    (λ no_digit. ⊎_elim lower
    (λ no_lower. ⊎_elim upper
    (λ no_upper. absurd (hex (cond-false (is_digit b) _ _ no_digit ∙ cond-false (is_between 97 102 b) _ _ no_lower ∙ cond-false (is_between 65 70 b) _ _ no_upper)))
    (cases_Bool (is_between 65 70 b)))
    (cases_Bool (is_between 97 102 b)))
    (cases_Bool (is_digit b))

-- ---- the bytes of a number

pub record IsDigitRun (text : List ℕ) : Type 0 where
  pub first : IsTrue (begins is_digit text)
  pub all : All (λ b. IsTrue (is_word_byte b)) text

pub numerals : IsNumeralModel (λ ds. (i : ℕ) → i < length ds → IsInRange 48 57 (get_or ds i 0)) (digits_value 10)
numerals = numerals_by_value _ tells_by_index

decimal_digits : (n : ℕ) → n < 2 ^ 63 → All (λ b. IsTrue (is_digit b)) (decimal n)
decimal_digits n small =
    let digits = digits_decimal numerals n (omega arith) in
    All-from_get_or (λ b. IsTrue (is_digit b)) (decimal n) 0 (λ i below. let range = digits i below in is_between_from 48 57 (get_or (decimal n) i 0) range.0 range.1)

decimal_run : (n : ℕ) → n < 2 ^ 63 → IsDigitRun (decimal n)
decimal_run n small = record {
  first = begins_from_all is_digit (decimal n) (decimal_nonempty n (omega arith)) (decimal_digits n small);
  all = All-weaker (λ b. IsTrue (is_digit b)) (λ b. IsTrue (is_word_byte b)) is_word_byte-digit (decimal n) (decimal_digits n small);
}

hex_run : (digits : List ℕ) → All IsHexDigit digits → IsDigitRun (48 ∷ 120 ∷ digits)
hex_run digits hex =
    let P : ℕ → Type 0 = λ b. IsTrue (is_word_byte b) in
    record { first = refl; all = All-cons P 48 (120 ∷ digits) refl (All-cons P 120 digits refl (All-weaker IsHexDigit P hex_is_word digits hex)) }

pub IsDigitRun-of : (text : List ℕ) (value : ℕ) → IsNumber text value → IsDigitRun text
IsDigitRun-of text value (small, inl e) = subst (λ (t : List ℕ). IsDigitRun t) (sym e) (decimal_run value small)
IsDigitRun-of text value (small, inr (digits, e, some, hex, v)) = subst (λ (t : List ℕ). IsDigitRun t) (sym e) (hex_run digits hex)

-- ---- one value

pub no_hex_in_decimal : (n : ℕ) (digits : List ℕ) → n < 2 ^ 63 → decimal n ≡ 48 ∷ 120 ∷ digits → ⊥
no_hex_in_decimal n digits small e =
    let P : ℕ → Type 0 = λ b. IsTrue (is_digit b) in
    let all = subst (λ (t : List ℕ). All P t) e (decimal_digits n small) in
    false≢true (All-head P 120 digits (All-tail P 48 (120 ∷ digits) all))

pub IsNumber-same : (text : List ℕ) (value other : ℕ) → IsNumber text value → IsNumber text other → value ≡ other
IsNumber-same text value other (small, inl e) (low, inl d) = decimal_injective value other (omega arith) (omega arith) (sym e ∙ d)
IsNumber-same text value other (small, inl e) (low, inr (digits, d, some, hex, v)) = absurd (no_hex_in_decimal value digits small (sym e ∙ d))
IsNumber-same text value other (small, inr (digits, e, some, hex, v)) (low, inl d) = absurd (no_hex_in_decimal other digits low (sym d ∙ e))
IsNumber-same text value other (small, inr (digits, e, some, hex, v)) (low, inr (others, d, also, hexes, w)) =
    let same : 48 ∷ 120 ∷ digits ≡ 48 ∷ 120 ∷ others = sym e ∙ d in
    let tails : digits ≡ others = cc in
    v ∙ ap hex_value tails ∙ sym w
