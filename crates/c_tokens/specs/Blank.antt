-- White space and comments.
use Rattle.std.specs.Prelude.{◌≡◌, ◌≢◌, ℕ, ◌⊎◌, Bool, false, ◌||◌, IsTrue, nat_eq, List, [], ◌∷◌, ◌++◌}
use Rattle.std.specs.List.{All, concat}
use Rattle.c_tokens.specs.Bytes.{is_white, begins, begins_with_two}

-- a `*/` stands somewhere in the bytes
abbrev pub has_close : List ℕ → Bool
has_close [] = false
has_close (b ∷ bs) = begins_with_two 42 47 (b ∷ bs) || has_close bs

-- `/*` to the next `*/` behind it
abbrev pub IsBlockComment : List ℕ → Type 0
IsBlockComment text =
    (body : List ℕ)
    × (text ≡ 47 ∷ 42 ∷ body ++ 42 ∷ 47 ∷ [])
    × (has_close (body ++ 42 ∷ []) ≡ false)

-- `//` to before the next LF or the end
abbrev pub IsLineComment : List ℕ → List ℕ → Type 0
IsLineComment text rest =
    (body : List ℕ)
    × (text ≡ 47 ∷ 47 ∷ body)
    × All (λ b. b ≢ 10) body
    × ((rest ≡ []) ⊎ IsTrue (begins (λ b. nat_eq b 10) rest))

-- one white byte or one comment, with these bytes behind it
abbrev pub IsBlankPart : List ℕ → List ℕ → Type 0
IsBlankPart text rest =
    ((b : ℕ) × (text ≡ b ∷ []) × IsTrue (is_white b))
    ⊎ (IsBlockComment text ⊎ IsLineComment text rest)

-- each part is blank before what follows it
abbrev pub AreBlankParts : List (List ℕ) → List ℕ → Type 0
AreBlankParts [] rest = Unit {0}
AreBlankParts (part ∷ parts) rest =
    IsBlankPart part (concat parts ++ rest)
    × AreBlankParts parts rest

-- white space and comments one after another, with these bytes behind them
abbrev pub IsBlank : List ℕ → List ℕ → Type 0
IsBlank text rest =
    (parts : List (List ℕ))
    × (text ≡ concat parts)
    × AreBlankParts parts rest
