-- Kinds of bytes. Letters are the 52 of ASCII.
use Rattle.std.specs.Prelude.{ℕ, ◌-◌, Bool, false, ◌&&◌, ◌||◌, nat_le, nat_eq, cond, Option, None, Some, List, [], ◌∷◌}

-- low to high
abbrev pub is_between : ℕ → ℕ → ℕ → Bool
is_between low high b = nat_le low b && nat_le b high

abbrev pub is_digit : ℕ → Bool
is_digit b = is_between 48 57 b

-- a letter or `_`
abbrev pub is_name_start : ℕ → Bool
is_name_start b = is_between 65 90 b || is_between 97 122 b || nat_eq b 95

-- a letter, a digit or `_`
abbrev pub is_word_byte : ℕ → Bool
is_word_byte b = is_name_start b || is_digit b

-- space, tab, LF or CR
abbrev pub is_white : ℕ → Bool
is_white b = nat_eq b 32 || nat_eq b 9 || nat_eq b 10 || nat_eq b 13

abbrev pub is_quote : ℕ → Bool
is_quote b = nat_eq b 39 || nat_eq b 34

-- the value of a hexadecimal digit of either case
abbrev pub hex_digit : ℕ → Option ℕ
hex_digit b =
    cond (is_digit b) (Some (b - 48))
    (cond (is_between 97 102 b) (Some (b - 87))
    (cond (is_between 65 70 b) (Some (b - 55)) None))

-- the list begins with a byte that passes the test
abbrev pub begins : (ℕ → Bool) → List ℕ → Bool
begins test [] = false
begins test (b ∷ bs) = test b

abbrev pub begins_with_two : ℕ → ℕ → List ℕ → Bool
begins_with_two a b [] = false
begins_with_two a b (x ∷ []) = false
begins_with_two a b (x ∷ y ∷ bs) = nat_eq x a && nat_eq y b
