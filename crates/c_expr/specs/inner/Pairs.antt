-- One pair of parentheses that closes round an operand.
use Rattle.std.specs.Prelude.{ℕ, if◌then◌else◌, nat_lt, List}
use Rattle.c_tokens.specs.declared.token.Mark.TheVariants as mark
use Rattle.c_tree.specs.Marks.{greatest_pairs, assign_level}
use Rattle.c_readers.specs.declared.operand.Operand.{Operand}
use Rattle.c_readers.specs.inner.Parser.{Parser, ◌>>=◌, ◌>>◌, pure, mismatch, expect}
use Rattle.c_readers.specs.inner.Readers.{Readers, grow, bracketed}

-- the operand in the parentheses that are open round it
unfoldable pub in_pair : List (List ℕ) → Readers → ℕ → Operand → Parser Operand
in_pair names inner limit o = do
  whole ← grow names inner limit assign_level o
  expect mark.RightParenthesis
  if nat_lt whole.pairs greatest_pairs then pure (bracketed whole) else mismatch
