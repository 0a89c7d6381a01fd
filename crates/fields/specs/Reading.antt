-- A reader takes fields from those that come. It answers what they say and the fields behind, or nothing where they say no such thing.
use Rattle.std.specs.Prelude.{◌≡◌, ℕ, ℤ, ◌&&◌, cond, nat_le, List, [], ◌∷◌, Option, Some, None}
use Rattle.fields.specs.Numbers.{number_of, u32_of, word_of}

abbrev pub Fields : Type 0
Fields = List (List ℕ)

abbrev pub Outcome : Type 0 → Type 0
Outcome A = Option (A × Fields)

abbrev pub Reader : Type 0 → Type 0
Reader A = Fields → Outcome A

abbrev pub and_then : {A B : Type 0} → Outcome A → (A → Reader B) → Outcome B
and_then (Some p) f = f p.0 p.1
and_then None f = None

infixl 10 ◌>>=◌
abbrev pub ◌>>=◌ : {A B : Type 0} → Reader A → (A → Reader B) → Reader B
p >>= f = λ fs. and_then (p fs) f

infixl 10 ◌>>◌
abbrev pub ◌>>◌ : {A B : Type 0} → Reader A → Reader B → Reader B
p >> q = p >>= (λ _. q)

-- no field is taken
abbrev pub pure : {A : Type 0} → A → Reader A
pure a = λ fs. Some (a, fs)

abbrev pub mismatch : {A : Type 0} → Reader A
mismatch = λ fs. None

-- the next field, whatever it is
abbrev pub field : Reader (List ℕ)
field [] = None
field (f ∷ fs) = Some (f, fs)

abbrev pub said : {A : Type 0} → Option A → Reader A
said (Some a) = pure a
said None = mismatch

-- the next field as a number below 2^64, below 2^32, and as a word
unfoldable pub number : Reader ℕ
number = field >>= (λ text. said (number_of text))

unfoldable pub small : Reader ℕ
small = field >>= (λ text. said (u32_of text))

unfoldable pub word : Reader ℤ
word = field >>= (λ text. said (word_of text))

-- the next field as a number in this range
unfoldable pub within : ℕ → ℕ → Reader ℕ
within low high = small >>= (λ n. cond (nat_le low n && nat_le n high) (pure n) mismatch)

-- nothing is left
unfoldable pub end : Reader (Unit {0})
end [] = Some (tt, [])
end (f ∷ fs) = None

-- what a function that takes fields ensures: it answers what a reader does
abbrev pub Reads : {A : Type 0} → Outcome A → Option A → Fields → Type 0
Reads outcome (Some a) new = outcome ≡ Some (a, new)
Reads outcome None new = outcome ≡ None
