-- What the lexer takes for a number has its value, and what it refuses is none.
-- ---- what is parsed
use Rattle.std.proofs.Common.{◌≡◌, ◌≢◌, ℕ, ◌+◌, ◌*◌, ◌^◌, ◌<◌, ◌≤◌, ◌⊎◌, inl, inr, true, false, IsTrue, Option, Some, None, List, [], ◌∷◌, ◌++◌, length, get_or, take, drop, sym, ap, ◌∙◌, subst, ⊎_elim, arith, ℤ, pos, Result, Ok, Err, take-append-drop, get_or-drop}
use Rattle.std.specs.Result.{MatchResult, result_ok}
use Rattle.std.specs.Str.{bytes_eq, IsAscii}
use Rattle.std.proofs.lemmas.Slice.Eq.{bytes_eq-Decides}
use Rattle.std.proofs.lemmas.Str.Ascii.{IsAscii-nil, IsAscii-cons}
use Rattle.std.proofs.lemmas.List.{get_or_past}
use Rattle.std.proofs.Math.Nat.{pow-suc, eq-zero-or-pos}
use Rattle.std.specs.Fmt.{decimal}
use Rattle.std.specs.Option.{unwrap_or, SomeIff, MatchOption}
use Rattle.std.specs.List.{All}
use Rattle.std.specs.Char.{digit_value}
use Rattle.std.specs.Str.Parse.{AllDigits, IsNumeral, digits_value, digits_value_after}
use Rattle.std.proofs.lemmas.Bool.{false≢true, both_ways, cases_lt}
use Rattle.std.proofs.lemmas.Bool.Decides.{nat_tests}
use Rattle.std.proofs.lemmas.Str.Parse.{numerals_by_value, tells_digits}
use Rattle.std.proofs.lemmas.Fmt.{digits_decimal, digits_value-decimal, decimal-digits_value, decimal_nonempty, decimal_digit, first_decimal}
use Rattle.std.proofs.lemmas.List.Elements.{All-nil, All-cons, All-head, All-tail}
use Rattle.c_tokens.specs.Bytes.{is_digit, is_word_byte, hex_digit, begins}
use Rattle.c_tokens.specs.Spell.{IsNumber, IsHexDigit, hex_value}
use Rattle.c_tokens.proofs.uniqueness.Numbers.{numerals, no_hex_in_decimal}

hex_digit_is : (b : ℕ) → ((digit_value b < 16) × (hex_digit b ≡ Some (digit_value b))) ⊎ ((16 ≤ digit_value b) × (hex_digit b ≡ None))
hex_digit_is b = grind (arith, nat_tests)

AllDigits-hex : (ds : List ℕ) → All IsHexDigit ds → AllDigits 16 ds
AllDigits-hex [] all = tt
AllDigits-hex (d ∷ ds) all =
    (⊎_elim (λ is. is.0) (λ no. absurd (All-head IsHexDigit d ds all no.1)) (hex_digit_is d), AllDigits-hex ds (All-tail IsHexDigit d ds all))

All-hex : (ds : List ℕ) → AllDigits 16 ds → All IsHexDigit ds
All-hex [] all = All-nil IsHexDigit
All-hex (d ∷ ds) all =
    All-cons IsHexDigit d ds (λ none. ⊎_elim (λ is. let e : Some (digit_value d) ≡ None = sym is.1 ∙ none in cc) (λ no. omega (arith, no.0, all.0)) (hex_digit_is d)) (All-hex ds all.1)

spread : (n v p h : ℕ) → (n * 16 + v) * p + h ≡ n * (p * 16) + (v * p + h)
spread n v p h = omega arith

hex_value-after : (n : ℕ) (ds : List ℕ) → AllDigits 16 ds → digits_value_after 16 n ds ≡ n * 16 ^ length ds + hex_value ds
hex_value-after n [] all = omega arith
hex_value-after n (d ∷ ds) all =
    let value : digit_value d ≡ unwrap_or (hex_digit d) 0 = ⊎_elim (λ is. ap (λ o. unwrap_or o 0) (sym is.1)) (λ no. absurd (omega (arith, no.0, all.0))) (hex_digit_is d) in
    let later = hex_value-after (n * 16 + digit_value d) ds all.1 in
    later ∙ ap (λ v. (n * 16 + v) * 16 ^ length ds + hex_value ds) value ∙ spread n (unwrap_or (hex_digit d) 0) (16 ^ length ds) (hex_value ds) ∙ ap (λ p. n * p + (unwrap_or (hex_digit d) 0 * 16 ^ length ds + hex_value ds)) (sym (pow-suc 16 (length ds)))

-- what was parsed of some digits in a radix
abbrev pub IsParsed : ℕ → List ℕ → Option ℤ → Type 0
IsParsed radix digits parsed = SomeIff parsed (IsNumeral radix digits × (digits_value radix digits < 2 ^ 63)) (pos (digits_value radix digits))

-- the answer for a run
abbrev pub IsNumberAnswer : List ℕ → Option ℤ → Type 0
IsNumberAnswer run answer = MatchOption answer ((value : ℕ) → IsNumber run value → ⊥) (λ n. (value : ℕ) × (n ≡ pos value) × IsNumber run value)

no_hex_number : (digits : List ℕ) (value : ℕ) → ¬ (IsNumeral 16 digits × (digits_value 16 digits < 2 ^ 63)) → IsNumber (48 ∷ 120 ∷ digits) value → ⊥
no_hex_number digits value fails (small, inl d) = no_hex_in_decimal value digits small (sym d)
no_hex_number digits value fails (small, inr (others, d, some, hex, v)) =
    let tails : others ≡ digits = cc in
    let P : List ℕ → Type 0 = λ l. (0 < length l) × All IsHexDigit l × (value ≡ hex_value l) in
    let facts = subst P tails (some, hex, v) in
    let all = AllDigits-hex digits facts.1 in
    fails ((facts.0, all), omega (arith, hex_value-after 0 digits all, facts.2))

pub hex_answer : (run digits : List ℕ) (parsed : Option ℤ) → run ≡ 48 ∷ 120 ∷ digits → IsParsed 16 digits parsed → IsNumberAnswer run parsed
hex_answer run digits None e fails = λ value number. no_hex_number digits value fails (subst (λ (t : List ℕ). IsNumber t value) e number)
hex_answer run digits (Some n) e is =
    let numeral = is.0.0 in
    (digits_value 16 digits, is.1, (is.0.1, inr (digits, e, numeral.0, All-hex digits numeral.1, omega (arith, hex_value-after 0 digits numeral.1))))

no_decimal_number : (run : List ℕ) (value : ℕ) → (get_or run 0 0 ≡ 48 → length run ≡ 1) → ¬ (IsNumeral 10 run × (digits_value 10 run < 2 ^ 63)) → IsNumber run value → ⊥
no_decimal_number run value one fails (small, inl d) =
    let digits = digits_decimal (numerals_by_value _ tells_digits) value (omega arith) in
    let is_value = digits_value-decimal numerals value (omega arith) in
    let P : List ℕ → Type 0 = λ l. IsNumeral 10 l × (digits_value 10 l < 2 ^ 63) in
    fails (subst P (sym d) ((decimal_nonempty value (omega arith), digits), omega arith))
no_decimal_number run value one fails (small, inr (others, d, also, hex, v)) = omega (arith, one (ap (λ l. get_or l 0 0) d), ap length d)

pub decimal_answer : (run : List ℕ) (parsed : Option ℤ) → (get_or run 0 0 ≡ 48 → length run ≡ 1) → IsParsed 10 run parsed → IsNumberAnswer run parsed
decimal_answer run None one fails = λ value number. no_decimal_number run value one fails number
decimal_answer run (Some n) one is =
    let numeral = is.0.0 in
    (digits_value 10 run, is.1, (is.0.1, inl (sym (decimal-digits_value (numerals_by_value _ tells_digits) run numeral.1 numeral.0 one (omega arith)))))

pub leading_zero_answer : (run : List ℕ) → 1 < length run → get_or run 0 0 ≡ 48 → ((digits : List ℕ) → run ≢ 48 ∷ 120 ∷ digits) → (value : ℕ) → IsNumber run value → ⊥
leading_zero_answer run long zero_first no_hex value (small, inr (digits, e, some, hex, v)) = no_hex digits e
leading_zero_answer run long zero_first no_hex value (small, inl e) =
    let first : get_or (decimal value) 0 0 ≡ 48 = ap (λ l. get_or l 0 0) (sym e) ∙ zero_first in
    ⊎_elim
    (λ none. omega (arith, ap length e, ap (λ n. length (decimal n)) none, ap length (decimal_digit 0 (omega arith)), long))
    (λ some. omega (arith, first_decimal value some (omega arith)))
    (eq-zero-or-pos value)

-- ---- what the code looks at

pub run_some : (run : List ℕ) → begins is_digit run ≡ true → 0 < length run
run_some [] e = absurd (false≢true e)
run_some (b ∷ bs) e = omega arith

word_nowhere : (run : List ℕ) (b k : ℕ) → is_word_byte b ≡ false → 0 < b → All (λ x. IsTrue (is_word_byte x)) run → get_or run k 0 ≡ b → ⊥
word_nowhere run b k other some all e =
    ⊎_elim
    (λ within. both_ways (is_word_byte b) other (ap is_word_byte (sym e) ∙ all k 0 within))
    (λ past. omega (arith, get_or_past run k 0 past, e, some))
    (cases_lt k (length run))

-- no sign stands behind the `0x`
pub no_sign : (run digits : List ℕ) (b : ℕ) → is_word_byte b ≡ false → 0 < b → All (λ x. IsTrue (is_word_byte x)) run → digits ≡ drop 2 run → get_or digits 0 0 ≡ b → ⊥
no_sign run digits b other some all is e =
    word_nowhere run b 2 other some all (sym (get_or-drop 2 run 0 0) ∙ ap (λ l. get_or l 0 0) (sym is) ∙ e)

pub hex_prefix : (run digits : List ℕ) → bytes_eq (take 2 run) (48 ∷ 120 ∷ []) ≡ true → digits ≡ drop 2 run → run ≡ 48 ∷ 120 ∷ digits
hex_prefix run digits e is =
    sym (take-append-drop 2 run) ∙ (λ i. (bytes_eq-Decides (take 2 run) (48 ∷ 120 ∷ [])).0 e i ++ sym is i)

pub no_hex_prefix : (run : List ℕ) → bytes_eq (take 2 run) (48 ∷ 120 ∷ []) ≡ false → (digits : List ℕ) → run ≢ 48 ∷ 120 ∷ digits
no_hex_prefix run e digits is = both_ways (bytes_eq (take 2 run) (48 ∷ 120 ∷ [])) e (ap (λ l. bytes_eq (take 2 l) (48 ∷ 120 ∷ [])) is)

-- digits are ASCII, so they are text
digit_ascii : (c : ℕ) → digit_value c < 36 → c < 128
digit_ascii c small = grind (arith, nat_tests)

pub IsAscii-digits : (radix : ℕ) (ds : List ℕ) → radix ≤ 36 → AllDigits radix ds → IsAscii ds
IsAscii-digits radix [] small all = IsAscii-nil
IsAscii-digits radix (d ∷ ds) small all = IsAscii-cons d ds (digit_ascii d (omega (arith, all.0))) (IsAscii-digits radix ds small all.1)

pub err_of : {X E : Type 0} (r : Result X E) (P : X → Type 0) (Q : E → Type 0) → None ≡ result_ok r → MatchResult r P Q → (e : E) × Q e
err_of (Ok x) P Q none cases = cc
err_of (Err e) P Q none cases = (e, cases)
