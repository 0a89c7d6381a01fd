-- That what is written of a tree is lexed and parsed to that tree.
use Rattle.std.specs.Prelude.{ℕ, List}
use Rattle.c_tokens.specs.declared.token.Token.{Token}
use Rattle.c_tokens.specs.Lex.{Lexes}
use Rattle.c_tree.specs.declared.statement.Unit.{Unit as Source}
use Rattle.c_tree.specs.Marks.{kinds_of}
use Rattle.c_tree.specs.Statements.{SourceReads}

-- the text has tokens, and they are the tree's
pub record IsTextOf (source : Source) (text : List ℕ) : Type 0 where
  pub tokens : List Token
  pub lexed : Lexes text tokens
  pub read : SourceReads (kinds_of tokens) source

-- where some text has the tree, the written one has it too
abbrev pub PrintsBack : Source → List ℕ → Type 0
PrintsBack source written = (text : List ℕ) → IsTextOf source text → IsTextOf source written
