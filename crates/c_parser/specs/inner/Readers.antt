-- The readers of items and sources, over those of statements: which tokens each takes from those that come.
use Rattle.std.specs.Prelude.{ℕ, zero, suc, true, if◌then◌else◌, List, [], ◌∷◌, ◌++◌, length, map, Some, None}
use Rattle.c_tokens.specs.declared.token.Keyword.TheVariants as word
use Rattle.c_tokens.specs.declared.token.Mark.TheVariants as mark
use Rattle.c_tree.specs.declared.expression.Declarator.{Declarator}
use Rattle.c_tree.specs.declared.expression.Spec.{Spec}
use Rattle.c_tree.specs.declared.statement.Init.{Init}
use Rattle.c_tree.specs.declared.statement.Item.{Item}
use Rattle.c_tree.specs.declared.statement.Item.TheVariants as item_as
use Rattle.c_tree.specs.declared.statement.Stmt.{Stmt}
use Rattle.c_tree.specs.Marks.{Kinds, greatest_depth}
use Rattle.c_tree.specs.DeclaredName.{declared_name}
use Rattle.c_readers.specs.inner.Parser.{Parser, Outcome, WithHeight, ◌>>=◌, ◌>>◌, pure, mismatch, sees, eat, expect}
use Rattle.c_readers.specs.inner.Readers.{Readers, readers}
use Rattle.c_statements.specs.inner.Readers.{eat_word, decl_of, block, init, stmt}

-- ---- items, and the type names that each declares, by the readers of one depth

module _ (names : List (List ℕ)) (r : Readers) (init : Parser (WithHeight Init)) (inner : Parser (WithHeight Stmt)) where
  -- behind the spec of a type definition
  unfoldable pub types_from : ℕ → List Declarator → Parser (List Declarator)
  types_from zero found = mismatch
  types_from (suc n) found = do
    d ← r.declarator
    more ← eat mark.Comma
    if more then types_from n (found ++ d.0 ∷ []) else pure (found ++ d.0 ∷ [])

  unfoldable pub types : Parser (List Declarator)
  types = λ ts. types_from (length ts) [] ts

  -- behind `typedef`
  unfoldable pub type_definition : Parser (Item × List (List ℕ))
  type_definition = do
    s ← r.spec true
    ds ← types
    expect mark.Semicolon
    pure (item_as.Typedef s.0 ds, map declared_name ds)

  -- behind the spec and the first declarator
  unfoldable pub item_of : WithHeight Spec → WithHeight Declarator → Parser (Item × List (List ℕ))
  item_of s d = λ ts.
      if sees mark.LeftBrace ts then (block names r init inner >>= (λ b. pure (item_as.Function s.0 d.0 b.0, []))) ts
      else (decl_of names r init s d >>= (λ d. pure (item_as.Decl d.0, []))) ts

  -- what begins with a spec
  unfoldable pub untyped : Parser (Item × List (List ℕ))
  untyped = do
    s ← r.spec true
    is_empty ← eat mark.Semicolon
    if is_empty then pure (item_as.Decl (record { spec = s.0; declarators = [] }), []) else r.declarator >>= item_of s

  unfoldable pub item_over : Parser (Item × List (List ℕ))
  item_over = do
    defines_types ← eat_word word.Typedef
    if defines_types then type_definition else untyped

-- with nodes at most so deep
unfoldable pub item : List (List ℕ) → ℕ → Parser (Item × List (List ℕ))
item names depth = item_over names (readers names depth) (init names depth) (stmt names depth)

-- ---- the whole source

-- items and the tokens behind them
abbrev pub Found : Type 0
Found = List Item × Kinds

abbrev pub behind_item : List Item → List (List ℕ) → Kinds → (List Item → List (List ℕ) → Kinds → Found) → Outcome (Item × List (List ℕ)) → Found
behind_item found names ts more None = (found, ts)
behind_item found names ts more (Some p) = more (found ++ p.0.0 ∷ []) (names ++ p.0.1) p.1

unfoldable pub items_from : ℕ → List Item → List (List ℕ) → Kinds → Found
items_from zero found names ts = (found, ts)
items_from (suc n) found names ts = behind_item found names ts (items_from n) (item names greatest_depth ts)

-- items one after another for as long as one begins the tokens, and the tokens that are left
unfoldable pub source_of : Kinds → Found
source_of ts = items_from (length ts) [] [] ts
