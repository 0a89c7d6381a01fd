-- What the parts of the lexer answer of the bytes from a place on.
use Rattle.std.specs.Prelude.{◌≡◌, ℕ, ◌+◌, ◌<◌, ◌≤◌, ◌≢◌, Bool, ◌&&◌, ◌||◌, Result, Ok, Err, List, ◌++◌, length, take, drop, slice_index}
use Rattle.c_tokens.specs.declared.token.Kind.{Kind}
use Rattle.c_tokens.specs.declared.token.LexRefusal.{LexRefusal}
use Rattle.c_tokens.specs.declared.token.LexRefusal.TheVariants.{Memory}
use Rattle.c_tokens.specs.Bytes.{is_white, begins, begins_with_two}
use Rattle.c_tokens.specs.Blank.{has_close}
use Rattle.c_tokens.specs.Spell.{IsPiece, IsToken}
use Rattle.c_tokens.specs.Lex.{IsBad, refused_line}

-- white space or a whole comment begins the bytes
abbrev pub begins_blank : List ℕ → Bool
begins_blank bytes =
    begins is_white bytes
    || begins_with_two 47 47 bytes
    || (begins_with_two 47 42 bytes && has_close (drop 2 bytes))

-- `*/` stands at this place
abbrev pub IsCloseAt : List ℕ → ℕ → Type 0
IsCloseAt bytes place = (slice_index bytes place ≡ 42) × (slice_index bytes (place + 1) ≡ 47)

-- no piece between these quotes begins the bytes
abbrev pub BeginsNoPiece : ℕ → List ℕ → Type 0
BeginsNoPiece quote bytes =
    (piece rest : List ℕ) (byte : ℕ)
    → bytes ≡ piece ++ rest
    → IsPiece quote piece byte
    → ⊥

-- the bytes begin with a token of this kind and length
pub record BeginsWithToken (bytes : List ℕ) (kind : Kind) (len : ℕ) : Type 0 where
  pub some : 0 < len
  pub inside : len ≤ length bytes
  pub token : IsToken kind (take len bytes) (drop len bytes)

-- the token that the bytes begin with, or the refusal there, on this line
abbrev pub IsTokenOrRefusal : List ℕ → ℕ → Result (Kind × ℕ) LexRefusal → Type 0
IsTokenOrRefusal bytes line (Ok found) = BeginsWithToken bytes found.0 found.1
IsTokenOrRefusal bytes line (Err refusal) =
    refusal ≢ Memory
    → IsBad refusal bytes × (refused_line refusal ≡ line)
