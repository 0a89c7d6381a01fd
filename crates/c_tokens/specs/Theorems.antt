-- What holds of every text.
use Rattle.std.specs.Prelude.{◌≡◌, ℕ, List, map}
use Rattle.c_tokens.specs.declared.token.Kind.{Kind}
use Rattle.c_tokens.specs.declared.token.Token.{Token}
use Rattle.c_tokens.specs.declared.token.LexRefusal.{LexRefusal}
use Rattle.c_tokens.specs.Lex.{Lexes, IsRefused, spaced, SpellEach}

-- these bytes have at most one list of tokens and at most one refusal, and never both
pub record HasOneAnswer (bytes : List ℕ) : Type 0 where
  pub one_list : (ts us : List Token) → Lexes bytes ts → Lexes bytes us → ts ≡ us
  -- the same cause on the same line
  pub one_refusal : (e f : LexRefusal) → IsRefused bytes e → IsRefused bytes f → e ≡ f
  pub never_both : (ts : List Token) (e : LexRefusal) → Lexes bytes ts → IsRefused bytes e → ⊥

abbrev pub TextsHaveOneAnswer : Type 0
TextsHaveOneAnswer = (bytes : List ℕ) → HasOneAnswer bytes

-- texts of tokens with a space behind each are lexed to tokens of just these kinds
abbrev pub SpacedTextLexes : Type 0
SpacedTextLexes =
    (kinds : List Kind) (texts : List (List ℕ))
    → SpellEach kinds texts
    → (tokens : List Token) × (map (λ t. t.kind) tokens ≡ kinds) × Lexes (spaced texts) tokens
