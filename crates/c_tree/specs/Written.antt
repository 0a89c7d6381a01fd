-- The text that the printer writes for a token, and for tokens one after another.
use Rattle.std.specs.Prelude.{ℕ, List, [], ◌∷◌, ◌++◌, map, Option, Some, None, cond, nat_eq}
use Rattle.std.specs.Fmt.{signed_decimal}
use Rattle.std.specs.List.{flat_map}
use Rattle.c_tokens.specs.declared.token.Kind.{Kind}
use Rattle.c_tokens.specs.declared.token.Kind.TheVariants.{Word, Name, Number, Text, Mark}
use Rattle.c_tokens.specs.Words.{keyword_text, mark_text}
use Rattle.c_tokens.specs.Lex.{spaced}
use Rattle.c_tree.specs.Marks.{Kinds}

-- what stands behind a `\` for a byte that doesn't stand for itself in a string
abbrev pub escape_letter : ℕ → Option ℕ
escape_letter b =
    cond (nat_eq b 10) (Some 110)
    (cond (nat_eq b 9) (Some 116)
    (cond (nat_eq b 0) (Some 48)
    (cond (nat_eq b 92) (Some 92)
    (cond (nat_eq b 34) (Some 34) None))))

abbrev pub piece_by : ℕ → Option ℕ → List ℕ
piece_by b (Some letter) = 92 ∷ letter ∷ []
piece_by b None = b ∷ []

-- a byte as a piece of a string
abbrev pub piece_of : ℕ → List ℕ
piece_of b = piece_by b (escape_letter b)

abbrev pub text_of : Kind → List ℕ
text_of (Word w) = keyword_text w
text_of (Name x) = x
text_of (Number n) = signed_decimal n
text_of (Text bytes) = 34 ∷ flat_map piece_of bytes ++ 34 ∷ []
text_of (Mark m) = mark_text m

-- these tokens, each with a space behind it
unfoldable pub written : Kinds → List ℕ
written ts = spaced (map text_of ts)
