-- The texts of tokens, form by form.
use Rattle.std.specs.Prelude.{◌≡◌, ◌≢◌, ℕ, pos, ◌+◌, ◌*◌, ◌^◌, ◌<◌, ◌≤◌, ◌⊎◌, false, IsTrue, List, [], ◌∷◌, ◌++◌, length, decimal, Option, None, Some, cond, nat_eq, unwrap_or}
use Rattle.std.specs.List.{All}
use Rattle.c_tokens.specs.declared.token.Keyword.{Keyword}
use Rattle.c_tokens.specs.declared.token.Kind.{Kind}
use Rattle.c_tokens.specs.declared.token.Kind.TheVariants.{Word, Name, Number, Text, Mark}
use Rattle.c_tokens.specs.Bytes.{is_digit, is_name_start, is_word_byte, hex_digit, begins, begins_with_two}
use Rattle.c_tokens.specs.Words.{keyword_text, mark_text}

-- identifier = (letter | "_") { letter | digit | "_" }
abbrev pub IsIdentifier : List ℕ → Type 0
IsIdentifier text =
    IsTrue (begins is_name_start text)
    × All (λ b. IsTrue (is_word_byte b)) text

abbrev pub IsNoKeyword : List ℕ → Type 0
IsNoKeyword text = (k : Keyword) → text ≢ keyword_text k

-- the number that hexadecimal digits stand for
abbrev pub hex_value : List ℕ → ℕ
hex_value [] = 0
hex_value (d ∷ ds) = unwrap_or (hex_digit d) 0 * 16 ^ length ds + hex_value ds

abbrev pub IsHexDigit : ℕ → Type 0
IsHexDigit b = hex_digit b ≢ None

-- hexadecimal = "0x" hexadecimal digit { hexadecimal digit }
abbrev pub IsHexadecimal : List ℕ → ℕ → Type 0
IsHexadecimal text value =
    (digits : List ℕ)
    × (text ≡ 48 ∷ 120 ∷ digits)
    × (0 < length digits)
    × All IsHexDigit digits
    × (value ≡ hex_value digits)

-- number = "0" | digit other than "0" { digit } | hexadecimal, at most 2^63 - 1
abbrev pub IsNumber : List ℕ → ℕ → Type 0
IsNumber text value =
    (value < 2 ^ 63)
    × ((text ≡ decimal value) ⊎ IsHexadecimal text value)

-- the byte that a `\` and this byte stand for: one of n t 0 \ ' "
abbrev pub escape : ℕ → Option ℕ
escape b =
    cond (nat_eq b 110) (Some 10)
    (cond (nat_eq b 116) (Some 9)
    (cond (nat_eq b 48) (Some 0)
    (cond (nat_eq b 92) (Some 92)
    (cond (nat_eq b 39) (Some 39)
    (cond (nat_eq b 34) (Some 34) None)))))

-- piece = byte 32 to 126 other than "\" and the quote | "\" byte that it escapes
abbrev pub IsPiece : ℕ → List ℕ → ℕ → Type 0
IsPiece quote piece byte =
    ((piece ≡ byte ∷ []) × (32 ≤ byte) × (byte ≤ 126) × (byte ≢ 92) × (byte ≢ quote))
    ⊎ ((e : ℕ) × (piece ≡ 92 ∷ e ∷ []) × (escape e ≡ Some byte))

-- pieces one after another, and their bytes
abbrev pub ArePieces : ℕ → List ℕ → List ℕ → Type 0
ArePieces quote text [] = text ≡ []
ArePieces quote text (byte ∷ bytes) =
    (piece rest : List ℕ)
    × (text ≡ piece ++ rest)
    × IsPiece quote piece byte
    × ArePieces quote rest bytes

-- character = "'" piece "'"
abbrev pub IsCharacter : List ℕ → ℕ → Type 0
IsCharacter text byte =
    (piece : List ℕ)
    × (text ≡ 39 ∷ piece ++ 39 ∷ [])
    × IsPiece 39 piece byte

-- string = '"' { piece } '"'
abbrev pub IsString : List ℕ → List ℕ → Type 0
IsString text bytes =
    (pieces : List ℕ)
    × (text ≡ 34 ∷ pieces ++ 34 ∷ [])
    × ArePieces 34 pieces bytes

-- the text is one token of this kind
abbrev pub Spells : Kind → List ℕ → Type 0
-- keyword
Spells (Word k) text = text ≡ keyword_text k
-- name = identifier that is no keyword
Spells (Name s) text =
    (s ≡ text)
    × IsIdentifier text
    × IsNoKeyword text
-- number | character
Spells (Number n) text =
    (value : ℕ)
    × (n ≡ pos value)
    × (IsNumber text value ⊎ IsCharacter text value)
-- string
Spells (Text s) text = IsString text s
-- mark
Spells (Mark m) text = text ≡ mark_text m

-- wherever `/*` or `//` stands a comment begins, and no token
abbrev pub OpensComment : List ℕ → Type 0
OpensComment bytes = IsTrue (begins_with_two 47 42 bytes) ⊎ IsTrue (begins_with_two 47 47 bytes)

-- no longer prefix of these bytes is a token
abbrev pub IsLongest : List ℕ → List ℕ → Type 0
IsLongest text rest =
    (kind : Kind) (other behind : List ℕ)
    → text ++ rest ≡ other ++ behind
    → Spells kind other
    → length other ≤ length text

-- a run of letters, digits and `_` that begins with a digit is taken whole
abbrev pub IsWholeRun : List ℕ → List ℕ → Type 0
IsWholeRun text rest = IsTrue (begins is_digit text) → begins is_word_byte rest ≡ false

-- this text, with these bytes behind it, is a token of this kind
pub record IsToken (kind : Kind) (text rest : List ℕ) : Type 0 where
  pub spelled : Spells kind text
  pub no_comment : OpensComment (text ++ rest) → ⊥
  pub longest : IsLongest text rest
  pub whole : IsWholeRun text rest
