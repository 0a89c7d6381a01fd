-- The tokens of a whole text, and where a text has none.
use Rattle.std.specs.Prelude.{◌≡◌, ℕ, ◌+◌, ◌<◌, ◌≤◌, false, ◌||◌, IsTrue, nat_eq, List, [], ◌∷◌, ◌++◌, length, take, drop, count_by, slice_range}
use Rattle.std.specs.List.{All}
use Rattle.c_tokens.specs.declared.token.Kind.{Kind}
use Rattle.c_tokens.specs.declared.token.Token.{Token}
use Rattle.c_tokens.specs.declared.token.LexRefusal.{LexRefusal}
use Rattle.c_tokens.specs.declared.token.LexRefusal.TheVariants.{Byte, Number, Text, Comment, Memory}
use Rattle.c_tokens.specs.Bytes.{is_digit, is_word_byte, is_white, is_quote, begins, begins_with_two}
use Rattle.c_tokens.specs.Spell.{Spells, IsToken, IsNumber, OpensComment}
use Rattle.c_tokens.specs.Blank.{IsBlank, has_close}

-- the line of a place: lines are counted from 1 and end at LF
abbrev pub line_at : List ℕ → ℕ → ℕ
line_at bytes place = 1 + count_by (λ b. nat_eq b 10) (take place bytes)

-- behind blanks from place `at` on, the token stands in the bytes
pub record StandsAt (bytes : List ℕ) (at : ℕ) (t : Token) : Type 0 where
  pub behind : at ≤ t.from
  pub some : t.from < t.to
  pub inside : t.to ≤ length bytes
  pub gap : IsBlank (slice_range bytes at t.from) (drop t.from bytes)
  pub token : IsToken t.kind (slice_range bytes t.from t.to) (drop t.to bytes)
  pub line : t.line ≡ line_at bytes t.from

-- from place `at` to place `end` the bytes are blanks and these tokens, one after another
abbrev pub LexesTo : List ℕ → ℕ → List Token → ℕ → Type 0
LexesTo bytes at [] end =
    (at ≤ end)
    × IsBlank (slice_range bytes at end) (drop end bytes)
LexesTo bytes at (t ∷ ts) end =
    StandsAt bytes at t
    × LexesTo bytes t.to ts end

-- the text is blanks and these tokens, one after another, each the longest at its place
abbrev pub Lexes : List ℕ → List Token → Type 0
Lexes bytes tokens = LexesTo bytes 0 tokens (length bytes)

-- no token begins these bytes
abbrev pub BeginsNoToken : List ℕ → Type 0
BeginsNoToken bytes =
    (kind : Kind) (text rest : List ℕ)
    → bytes ≡ text ++ rest
    → Spells kind text
    → ⊥

-- the whole run of letters, digits and `_` that the bytes begin with is no number
abbrev pub BeginsNoNumber : List ℕ → Type 0
BeginsNoNumber bytes =
    (run rest : List ℕ)
    × (bytes ≡ run ++ rest)
    × All (λ b. IsTrue (is_word_byte b)) run
    × (begins is_word_byte rest ≡ false)
    × ((value : ℕ) → IsNumber run value → ⊥)

-- what is wrong where these bytes begin
abbrev pub IsBad : LexRefusal → List ℕ → Type 0
-- `/*` without a `*/` behind it
IsBad (Comment line) bytes =
    IsTrue (begins_with_two 47 42 bytes)
    × (has_close (drop 2 bytes) ≡ false)
-- a run of letters, digits and `_` that begins with a digit and is no number
IsBad (Number line) bytes =
    IsTrue (begins is_digit bytes)
    × BeginsNoNumber bytes
-- a quote that begins no character or string
IsBad (Text line) bytes =
    IsTrue (begins is_quote bytes)
    × BeginsNoToken bytes
-- any other byte that begins nothing
IsBad (Byte line) bytes =
    (0 < length bytes)
    × (begins (λ b. is_white b || is_digit b || is_quote b) bytes ≡ false)
    × (OpensComment bytes → ⊥)
    × BeginsNoToken bytes
IsBad Memory bytes = ⊥

abbrev pub refused_line : LexRefusal → ℕ
refused_line (Comment line) = line
refused_line (Number line) = line
refused_line (Text line) = line
refused_line (Byte line) = line
refused_line Memory = 0

-- behind tokens and blanks stands the first place that is none, on this line and for this cause
pub record IsRefused (bytes : List ℕ) (refusal : LexRefusal) : Type 0 where
  pub tokens : List Token
  pub place : ℕ
  pub inside : place ≤ length bytes
  pub before : LexesTo bytes 0 tokens place
  pub bad : IsBad refusal (drop place bytes)
  pub line : refused_line refusal ≡ line_at bytes place

-- these texts, each with one space behind it
abbrev pub spaced : List (List ℕ) → List ℕ
spaced [] = []
spaced (text ∷ texts) = text ++ 32 ∷ spaced texts

-- each text is a token of its kind
abbrev pub SpellEach : List Kind → List (List ℕ) → Type 0
SpellEach [] [] = Unit {0}
SpellEach [] (text ∷ texts) = ⊥
SpellEach (kind ∷ kinds) [] = ⊥
SpellEach (kind ∷ kinds) (text ∷ texts) =
    Spells kind text
    × SpellEach kinds texts
