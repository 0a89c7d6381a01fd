-- A text has at most as many tokens as bytes.
use Rattle.std.proofs.Common.{ℕ, ◌+◌, ◌≤◌, List, [], ◌∷◌, length, arith}
use Rattle.c_tokens.specs.declared.token.Token.{Token}
use Rattle.c_tokens.specs.Lex.{LexesTo, Lexes}

-- each token takes a byte at least
count_to : (bytes : List ℕ) (at end : ℕ) (ts : List Token) → LexesTo bytes at ts end → at + length ts ≤ end
count_to bytes at end [] p = omega (arith, p.0)
count_to bytes at end (t ∷ ts) p = omega (arith, p.0.behind, p.0.some, count_to bytes t.to end ts p.1)

pub Lexes-count : (bytes : List ℕ) (ts : List Token) → Lexes bytes ts → length ts ≤ length bytes
Lexes-count bytes ts p = omega (arith, count_to bytes 0 (length bytes) ts p)
