-- Parts of the readers of declarators: what stands behind one in parentheses.
use Rattle.std.specs.Prelude.{ℕ, ◌+◌, max, List, Some}
use Rattle.c_tokens.specs.declared.token.Mark.TheVariants as mark
use Rattle.c_tree.specs.declared.expression.AbstractDeclarator.{AbstractDeclarator}
use Rattle.c_tree.specs.declared.expression.Suffix.{Suffix}
use Rattle.c_tree.specs.declared.expression.Suffix.TheVariants as suffix_as
use Rattle.c_tree.specs.Trees.{abstract as abstract_of}
use Rattle.c_readers.specs.inner.Parser.{Parser, WithHeight, ◌>>=◌, ◌>>◌, pure, expect}
use Rattle.c_readers.specs.inner.Readers.{Readers, suffixes, with_suffixes}

-- the parameters of a suffix, behind their parenthesis
unfoldable pub given : Readers → Parser (WithHeight Suffix)
given inner = do
  params ← inner.params
  expect mark.RightParenthesis
  pure (suffix_as.Function params.0, params.1)

-- behind an abstract declarator in parentheses that has these stars before it
unfoldable pub nested_behind : List (List ℕ) → Readers → ℕ → WithHeight AbstractDeclarator → Parser (WithHeight AbstractDeclarator)
nested_behind names inner stars inside = do
  expect mark.RightParenthesis
  ss ← suffixes names inner
  pure (abstract_of stars (Some inside.0) ss.0, 1 + max inside.1 ss.1)

-- behind one in parentheses that may stand for nothing
unfoldable pub bracketed_behind : List (List ℕ) → Readers → ℕ → WithHeight AbstractDeclarator → Parser (WithHeight AbstractDeclarator)
bracketed_behind names inner limit inside = do
  expect mark.RightParenthesis
  ss ← suffixes names inner
  with_suffixes names inner limit inside ss
