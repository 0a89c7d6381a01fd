-- A number and its text determine each other.
use Rattle.std.proofs.Common.{◌≡◌, ◌≢◌, ℕ, ℤ, pos, negsuc, ◌^◌, ◌<◌, ◌≤◌, ◌&&◌, true, cond, List, [], ◌∷◌, length, get_or, refl, sym, ap, ◌∙◌, arith, suc, Option, None, Some, IfSome, IfNone, Result, Ok, Err}
use Rattle.std.specs.Prelude.{nat_eq, nat_lt, decimal, drop}
use Rattle.std.specs.Fmt.{signed_decimal}
use Rattle.std.specs.Result.{result_ok, OkIff}
use Rattle.std.specs.Str.{all_ascii_digits, bytes_eq}
use Rattle.std.specs.Str.Parse.{digits_value}
use Rattle.std.proofs.lemmas.Bool.{cond-true, cond-false, and_from, and_parts, lt-ltb, ltb-true, ne_eqb}
use Rattle.std.proofs.lemmas.Fmt.{decimal_is_IsNumeral, decimal_nonempty, decimal_injective}
use Rattle.std.proofs.lemmas.Option.{cond_some}
use Rattle.std.proofs.lemmas.Slice.Eq.{bytes_eq-Decides}
use Rattle.std.proofs.lemmas.Str.Parse.{not_in_digits}
use Rattle.fields.specs.Numbers.{IsWord, is_word, minus, worth, number_below, number_of, u32_of, word_of}
use Rattle.fields.proofs.NumberLemmas.{own, IsDecimal-decimal}

none_or : {A : Type 0} (o : Option A) → ((a : A) → o ≡ Some a → ⊥) → o ≡ None
none_or None other = refl
none_or (Some a) other = absurd (other a refl)

-- ---- numbers below a bound

canonical : (bound v n : ℕ) (text : List ℕ) → v ≡ n → n < bound → decimal n ≡ text → cond (nat_lt v bound && bytes_eq (decimal v) text) (Some v) None ≡ Some n
canonical bound v n text same small is =
    cond-true _ _ _ (and_from _ _ (lt-ltb v bound (omega arith)) ((bytes_eq-Decides (decimal v) text).1 (ap decimal same ∙ is))) ∙ ap Some same

pub below_is : (bound n : ℕ) → bound ≤ 2 ^ 64 → n < bound → number_below bound (decimal n) ≡ Some n
below_is bound n fits small = canonical bound (digits_value 10 (decimal n)) n (decimal n) (decimal_is_IsNumeral n (omega arith)).1 small refl

pub below_written : (bound : ℕ) (text : List ℕ) (n : ℕ) → number_below bound text ≡ Some n → (n < bound) × (text ≡ decimal n)
below_written bound text n is =
    let test = nat_lt (digits_value 10 text) bound && bytes_eq (decimal (digits_value 10 text)) text in
    let p = cond_some test (digits_value 10 text) n is in
    let q = and_parts (nat_lt (digits_value 10 text) bound) (bytes_eq (decimal (digits_value 10 text)) text) p.0 in
    let small = ltb-true (digits_value 10 text) bound q.0 in
    let same = p.1 in
    (omega arith, sym ((bytes_eq-Decides (decimal (digits_value 10 text)) text).0 q.1) ∙ ap decimal same)

-- what is read exactly is the number of the text
pub below_from : (bound : ℕ) → bound ≤ 2 ^ 64 → (text : List ℕ) (r : Option ℕ) → IfSome r (λ n. (n < bound) × (text ≡ decimal n)) → IfNone r ((n : ℕ) → n < bound → text ≢ decimal n) → r ≡ number_below bound text
below_from bound fits text (Some n) found none = sym (ap (number_below bound) found.1 ∙ below_is bound n fits found.0)
below_from bound fits text None found none =
    sym (none_or (number_below bound text) (λ n is. let w = below_written bound text n is in none n w.0 w.1))

both : {A : Type 0} (P Q : A → Type 0) (r : Option A) → IfSome r P → IfSome r Q → IfSome r (λ a. P a × Q a)
both P Q (Some a) p q = (p, q)
both P Q None p q = tt

pub number_from : (text : List ℕ) (r : Option ℕ) → IfSome r (λ n. n < 2 ^ 64) → IfSome r (λ n. text ≡ decimal n) → IfNone r ((n : ℕ) → n < 2 ^ 64 → text ≢ decimal n) → r ≡ number_of text
unfolding number_of
number_from text r small found none = below_from (2 ^ 64) (omega arith) text r (both (λ n. n < 2 ^ 64) (λ n. text ≡ decimal n) r small found) none

-- no number, so none of 32 bits
pub u32_none : (text : List ℕ) → ((n : ℕ) → n < 2 ^ 64 → text ≢ decimal n) → None ≡ u32_of text
unfolding u32_of
u32_none text none = below_from (2 ^ 32) (omega arith) text None tt (λ n small. none n (omega arith))

fitting : {E : Type 0} (text : List ℕ) (n : ℕ) (r : Result ℕ E) → text ≡ decimal n → OkIff r (n < 2 ^ 32) n → IfSome (result_ok r) (λ m. (m < 2 ^ 32) × (text ≡ decimal m))
fitting text n (Ok m) is fits = let same = fits.1 in (omega (arith, fits.0), is ∙ ap decimal (sym same))
fitting text n (Err e) is fits = tt

too_large_text : {E : Type 0} (text : List ℕ) (n : ℕ) (r : Result ℕ E) → n < 2 ^ 64 → text ≡ decimal n → OkIff r (n < 2 ^ 32) n → IfNone (result_ok r) ((m : ℕ) → m < 2 ^ 32 → text ≢ decimal m)
too_large_text text n (Ok m) small is fits = tt
too_large_text text n (Err e) small is fits = λ m few written.
    let same : n ≡ m = decimal_injective n m small (omega arith) (sym is ∙ written) in
    fits (omega arith)

-- a number, which may be too large
pub u32_from : {E : Type 0} (text : List ℕ) (n : ℕ) (r : Result ℕ E) → n < 2 ^ 64 → text ≡ decimal n → OkIff r (n < 2 ^ 32) n → result_ok r ≡ u32_of text
unfolding u32_of
u32_from text n r small is fits = below_from (2 ^ 32) (omega arith) text (result_ok r) (fitting text n r is fits) (too_large_text text n r small is fits)

-- ---- words

is_word_from : (v : ℤ) → IsWord v → is_word v ≡ true
is_word_from (pos n) small = lt-ltb n (2 ^ 63) small
is_word_from (negsuc n) small = lt-ltb n (2 ^ 63) small

is_word_says : (v : ℤ) → is_word v ≡ true → IsWord v
is_word_says (pos n) test = ltb-true n (2 ^ 63) test
is_word_says (negsuc n) test = ltb-true n (2 ^ 63) test

no_minus : (n : ℕ) → n < 2 ^ 64 → get_or (decimal n) 0 0 ≢ 45
no_minus n small = not_in_digits own (decimal n) 45 (IsDecimal-decimal n small).digits (λ within. omega (arith, within)) 0 (decimal_nonempty n small)

worth_is : (v : ℤ) → IsWord v → worth (signed_decimal v) ≡ v
worth_is (pos n) small =
    cond-false (nat_eq (get_or (decimal n) 0 0) 45) _ _ (ne_eqb (get_or (decimal n) 0 0) 45 (no_minus n (omega arith)))
    ∙ ap pos (decimal_is_IsNumeral n (omega arith)).1
worth_is (negsuc n) small = ap minus (decimal_is_IsNumeral (suc n) (omega arith)).1

canonical_word : (w v : ℤ) (text : List ℕ) → w ≡ v → IsWord v → signed_decimal v ≡ text → cond (is_word w && bytes_eq (signed_decimal w) text) (Some w) None ≡ Some v
canonical_word w v text same small is =
    cond-true _ _ _ (and_from _ _ (ap is_word same ∙ is_word_from v small) ((bytes_eq-Decides (signed_decimal w) text).1 (ap signed_decimal same ∙ is))) ∙ ap Some same

pub word_is : (v : ℤ) → IsWord v → word_of (signed_decimal v) ≡ Some v
unfolding word_of
word_is v small = canonical_word (worth (signed_decimal v)) v (signed_decimal v) (worth_is v small) small refl

pub word_written : (text : List ℕ) (v : ℤ) → word_of text ≡ Some v → IsWord v × (text ≡ signed_decimal v)
unfolding word_of
word_written text v is =
    let w = worth text in
    let p = cond_some (is_word w && bytes_eq (signed_decimal w) text) w v is in
    let q = and_parts (is_word w) (bytes_eq (signed_decimal w) text) p.0 in
    (is_word_says v (sym (ap is_word p.1) ∙ q.0), sym ((bytes_eq-Decides (signed_decimal w) text).0 q.1) ∙ ap signed_decimal p.1)

pub word_from : (text : List ℕ) (r : Option ℤ) → IfSome r IsWord → IfSome r (λ v. text ≡ signed_decimal v) → IfNone r ((v : ℤ) → IsWord v → text ≢ signed_decimal v) → r ≡ word_of text
word_from text (Some v) small found none = sym (ap word_of found ∙ word_is v small)
word_from text None small found none = sym (none_or (word_of text) (λ v is. let w = word_written text v is in none v w.0 w.1))
