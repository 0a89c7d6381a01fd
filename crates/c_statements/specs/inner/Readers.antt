-- The readers of initialisers, declarations and statements, over those of expressions: which tokens each takes from those that come.
use Rattle.std.specs.Prelude.{ℕ, zero, suc, ◌+◌, max, Bool, true, false, if◌then◌else◌, List, [], ◌∷◌, ◌++◌, length, Option, Some, None}
use Rattle.c_tokens.specs.declared.token.Keyword.{Keyword}
use Rattle.c_tokens.specs.declared.token.Keyword.TheVariants as word
use Rattle.c_tokens.specs.declared.token.Kind.{Kind}
use Rattle.c_tokens.specs.declared.token.Kind.TheVariants.{Word, Mark}
use Rattle.c_tokens.specs.declared.token.Mark.{Mark as MarkName}
use Rattle.c_tokens.specs.declared.token.Mark.TheVariants as mark
use Rattle.c_tree.specs.declared.expression.Declarator.{Declarator}
use Rattle.c_tree.specs.declared.expression.Spec.{Spec}
use Rattle.c_tree.specs.declared.statement.Block.{Block}
use Rattle.c_tree.specs.declared.statement.BlockItem.{BlockItem}
use Rattle.c_tree.specs.declared.statement.BlockItem.TheVariants as block_item_as
use Rattle.c_tree.specs.declared.statement.Decl.{Decl}
use Rattle.c_tree.specs.declared.statement.ForInit.{ForInit}
use Rattle.c_tree.specs.declared.statement.ForInit.TheVariants as for_init_as
use Rattle.c_tree.specs.declared.statement.FullExpr.{FullExpr}
use Rattle.c_tree.specs.declared.statement.Init.{Init}
use Rattle.c_tree.specs.declared.statement.Init.TheVariants as init_as
use Rattle.c_tree.specs.declared.statement.InitDeclarator.{InitDeclarator}
use Rattle.c_tree.specs.declared.statement.Stmt.{Stmt}
use Rattle.c_tree.specs.declared.statement.Stmt.TheVariants as stmt_as
use Rattle.c_tree.specs.Marks.{Kinds, assign_level}
use Rattle.c_tree.specs.Trees.{full, block as block_of, for_loop}
use Rattle.c_readers.specs.inner.Parser.{Parser, Outcome, WithHeight, ◌>>=◌, ◌>>◌, pure, mismatch, is_word, behind, eat, expect}
use Rattle.c_readers.specs.inner.Readers.{Readers, readers, begins_spec}
use Rattle.c_statements.specs.declared.form.Form.{Form}
use Rattle.c_statements.specs.declared.form.Form.TheVariants as form_as

-- ---- words

-- the first token is this word
abbrev pub sees_word : Keyword → Kinds → Bool
sees_word w [] = false
sees_word w (k ∷ ks) = is_word w k

unfoldable pub after_word : Keyword → Kinds → Kinds
after_word w ts = if sees_word w ts then behind ts else ts

-- takes the word, if it comes next
abbrev pub eat_word : Keyword → Parser Bool
eat_word w = λ ts. Some (sees_word w ts, after_word w ts)

unfoldable pub expect_word : Keyword → Parser (Unit {0})
expect_word w = λ ts. if sees_word w ts then Some (tt, behind ts) else None

-- the form of the statement that begins with this token
abbrev pub form_of : Kind → Form
form_of (Mark mark.LeftBrace) = form_as.Block
form_of (Word word.If) = form_as.If
form_of (Word word.While) = form_as.While
form_of (Word word.Do) = form_as.Do
form_of (Word word.For) = form_as.For
form_of (Word word.Break) = form_as.Break
form_of (Word word.Continue) = form_as.Continue
form_of (Word word.Return) = form_as.Return
form_of k = form_as.Computation

-- the semicolon behind a statement that is a word alone
unfoldable pub ended : Stmt → Parser (WithHeight Stmt)
ended s = expect mark.Semicolon >> pure (s, 1)

-- ---- by the readers of expressions, specs and declarators of this depth

module _ (names : List (List ℕ)) (r : Readers) where
  -- an expression of a statement
  unfoldable pub full_expr : Parser (WithHeight FullExpr)
  full_expr = r.expr assign_level >>= (λ e. pure (full e.0, e.1))

  -- an expression, if one stands before the mark, and the mark
  unfoldable pub option_to : MarkName → Parser (WithHeight (Option FullExpr))
  option_to m = do
    is_empty ← eat m
    if is_empty then pure (None, 0) else (do
      e ← full_expr
      expect m
      pure (Some e.0, e.1))

  -- the condition and the step of a `for`, and the closing parenthesis
  unfoldable pub for_tests : Parser (WithHeight (Option FullExpr × Option FullExpr))
  for_tests = do
    c ← option_to mark.Semicolon
    step ← option_to mark.RightParenthesis
    pure ((c.0, step.0), max c.1 step.1)

  -- an expression in parentheses
  unfoldable pub condition : Parser (WithHeight FullExpr)
  condition = do
    expect mark.LeftParenthesis
    c ← full_expr
    expect mark.RightParenthesis
    pure c

  -- ---- initialisers, by those of the same depth

  module _ (inner : Parser (WithHeight Init)) where
    unfoldable pub inits_from : ℕ → List Init → ℕ → Parser (WithHeight (List Init))
    inits_from zero found height = mismatch
    inits_from (suc n) found height = do
      i ← inner
      more ← eat mark.Comma
      if more then (do
        ends ← eat mark.RightBrace
        if ends then pure (found ++ i.0 ∷ [], max height i.1) else inits_from n (found ++ i.0 ∷ []) (max height i.1)) else (do
          expect mark.RightBrace
          pure (found ++ i.0 ∷ [], max height i.1))

    -- behind the opening brace, and the closing one
    unfoldable pub braces : Parser (WithHeight Init)
    braces = do
      parts ← (λ ts. inits_from (length ts) [] 0 ts)
      pure (init_as.Braces parts.0, 1 + parts.1)

    -- an initialiser, one deeper
    unfoldable pub init_over : Parser (WithHeight Init)
    init_over = do
      has_braces ← eat mark.LeftBrace
      if has_braces then braces else (r.expr assign_level >>= (λ e. pure (init_as.Expr e.0, 1 + e.1)))

  -- ---- declarations, by the initialisers of the same depth

  module _ (init : Parser (WithHeight Init)) where
    -- behind the declarator
    unfoldable pub with_init : WithHeight Declarator → Parser (WithHeight InitDeclarator)
    with_init d = do
      has_init ← eat mark.Assign
      if has_init then init >>= (λ i. pure (record { declarator = d.0; init = Some i.0 }, max d.1 i.1)) else pure (record { declarator = d.0; init = None }, d.1)

    -- behind the first declarator
    unfoldable pub declared_from : ℕ → List InitDeclarator → ℕ → WithHeight Declarator → Parser (WithHeight (List InitDeclarator))
    declared_from zero found height d = mismatch
    declared_from (suc n) found height d = do
      i ← with_init d
      more ← eat mark.Comma
      if more then r.declarator >>= declared_from n (found ++ i.0 ∷ []) (max height i.1) else pure (found ++ i.0 ∷ [], max height i.1)

    unfoldable pub declared : WithHeight Declarator → Parser (WithHeight (List InitDeclarator))
    declared d = λ ts. declared_from (length ts) [] 0 d ts

    -- behind the spec and the first declarator
    unfoldable pub decl_of : WithHeight Spec → WithHeight Declarator → Parser (WithHeight Decl)
    decl_of s d = do
      ds ← declared d
      expect mark.Semicolon
      pure (record { spec = s.0; declarators = ds.0 }, max s.1 ds.1)

    unfoldable pub decl : Parser (WithHeight Decl)
    decl = do
      s ← r.spec true
      is_empty ← eat mark.Semicolon
      if is_empty then pure (record { spec = s.0; declarators = [] }, s.1) else r.declarator >>= decl_of s

    -- what a `for` begins with, with its `;`
    unfoldable pub for_init : Parser (WithHeight ForInit)
    for_init = λ ts.
        if begins_spec names ts then (decl >>= (λ d. pure (for_init_as.Decl d.0, d.1))) ts
        else (option_to mark.Semicolon >>= (λ o. pure (for_init_as.Expr o.0, o.1))) ts

    -- ---- statements, by those of the same depth

    module _ (inner : Parser (WithHeight Stmt)) where
      unfoldable pub block_item : Parser (WithHeight BlockItem)
      block_item = λ ts.
          if begins_spec names ts then (decl >>= (λ d. pure (block_item_as.Decl d.0, d.1))) ts
          else (inner >>= (λ s. pure (block_item_as.Stmt s.0, s.1))) ts

      unfoldable pub block_items_from : ℕ → List BlockItem → ℕ → Parser (WithHeight (List BlockItem))
      block_items_from zero found height = mismatch
      block_items_from (suc n) found height = do
        ends ← eat mark.RightBrace
        if ends then pure (found, height)
            else block_item >>= (λ i. block_items_from n (found ++ i.0 ∷ []) (max height i.1))

      -- the items of a block, and the brace behind them
      unfoldable pub block_items : Parser (WithHeight (List BlockItem))
      block_items = λ ts. block_items_from (length ts) [] 0 ts

      unfoldable pub block : Parser (WithHeight Block)
      block = do
        expect mark.LeftBrace
        is ← block_items
        pure (block_of is.0, is.1)

      -- behind `if`: the statement takes an `else` that comes
      unfoldable pub if_behind : Parser (WithHeight Stmt)
      if_behind = do
        c ← condition
        then_part ← inner
        has_else ← eat_word word.Else
        if has_else then inner >>= (λ o. pure (stmt_as.If c.0 then_part.0 (Some o.0), 1 + max c.1 (max then_part.1 o.1))) else pure (stmt_as.If c.0 then_part.0 None, 1 + max c.1 then_part.1)

      unfoldable pub while_behind : Parser (WithHeight Stmt)
      while_behind = do
        c ← condition
        body ← inner
        pure (stmt_as.While c.0 body.0, 1 + max c.1 body.1)

      unfoldable pub do_behind : Parser (WithHeight Stmt)
      do_behind = do
        body ← inner
        expect_word word.While
        c ← condition
        expect mark.Semicolon
        pure (stmt_as.Do body.0 c.0, 1 + max body.1 c.1)

      unfoldable pub for_behind : Parser (WithHeight Stmt)
      for_behind = do
        expect mark.LeftParenthesis
        f ← for_init
        tests ← for_tests
        body ← inner
        pure (for_loop f.0 tests.0.0 tests.0.1 body.0, 1 + max f.1 (max tests.1 body.1))

      unfoldable pub return_behind : Parser (WithHeight Stmt)
      return_behind = option_to mark.Semicolon >>= (λ o. pure (stmt_as.Return o.0, 1 + o.1))

      unfoldable pub computes : Parser (WithHeight Stmt)
      computes = option_to mark.Semicolon >>= (λ o. pure (stmt_as.Expr o.0, 1 + o.1))

      -- by the form that the first token says; `ks` stand behind that token
      abbrev pub stmt_by : Form → Kinds → Kinds → Outcome (WithHeight Stmt)
      stmt_by form_as.Block ts ks = (block >>= (λ b. pure (stmt_as.Block b.0, 1 + b.1))) ts
      stmt_by form_as.If ts ks = if_behind ks
      stmt_by form_as.While ts ks = while_behind ks
      stmt_by form_as.Do ts ks = do_behind ks
      stmt_by form_as.For ts ks = for_behind ks
      stmt_by form_as.Break ts ks = ended stmt_as.Break ks
      stmt_by form_as.Continue ts ks = ended stmt_as.Continue ks
      stmt_by form_as.Return ts ks = return_behind ks
      stmt_by form_as.Computation ts ks = computes ts

      -- a statement, one deeper
      unfoldable pub stmt_over : Parser (WithHeight Stmt)
      stmt_over [] = None
      stmt_over (k ∷ ks) = stmt_by (form_of k) (k ∷ ks) ks

-- ---- with nodes at most so deep

module _ (names : List (List ℕ)) where
  unfoldable pub init : ℕ → Parser (WithHeight Init)
  init zero = mismatch
  init (suc depth) = init_over names (readers names depth) (init depth)

  unfoldable pub stmt : ℕ → Parser (WithHeight Stmt)
  stmt zero = mismatch
  stmt (suc depth) = stmt_over names (readers names depth) (init depth) (stmt depth)

-- a reader over those of the same depth
abbrev pub of_depth : {A : Type 0} → (List (List ℕ) → Readers → Parser (WithHeight Init) → Parser (WithHeight Stmt) → Parser A) → List (List ℕ) → ℕ → Parser A
of_depth p names depth = p names (readers names depth) (init names depth) (stmt names depth)
