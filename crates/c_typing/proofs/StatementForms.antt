-- The walk of each form of a statement, a block and a `for`.
use Rattle.std.proofs.Common.{◌≡◌, Bool, map, Option, Some, None, ap}
use Rattle.c_types.specs.declared.ty.Ty.{Ty}
use Rattle.c_tree.specs.declared.statement.Block.{Block, out-Block}
use Rattle.c_tree.specs.declared.statement.BlockItem.TheOpen.{BlockItem-F}
use Rattle.c_tree.specs.declared.statement.BlockItem.TheVariants as block_item
use Rattle.c_tree.specs.declared.statement.Decl.{Decl}
use Rattle.c_tree.specs.declared.statement.ForLoop.{ForLoop, out-ForLoop}
use Rattle.c_tree.specs.declared.statement.FullExpr.{FullExpr}
use Rattle.c_tree.specs.declared.statement.Stmt.{Stmt}
use Rattle.c_tree.specs.declared.statement.Stmt.TheVariants as raw
use Rattle.c_tree.specs.FoldStatements.{StatementPass}
use Rattle.c_tree.specs.inner.FoldStatementsEquations as tree
use Rattle.c_typed.specs.declared.statement.TypedStmt.TheVariants as stmt
use Rattle.c_scope.specs.declared.world.World.{World}
use Rattle.c_typing.specs.Statements.{FoundStatements, block_item_step, block_step, block_walked, do_walked}
use Rattle.c_typing.specs.Statements.{expr_walked, for_step, for_walked, if_alone, if_else, jump, return_walked}
use Rattle.c_typing.specs.Statements.{statement_steps, walked_statements, while_walked}

module _ (returns : Ty) where
  -- what is walked
  abbrev of : StatementPass FoundStatements
  of = walked_statements returns

  -- ---- statements

  pub stmt-Block : (b : Block) (in_loop : Bool) (w : World)
      → of.stmt (raw.Block b) in_loop w ≡ block_walked (of.block b) in_loop w
  unfolding walked_statements
  stmt-Block b in_loop w = ap (λ f. f in_loop w) (tree.stmt-Block (statement_steps returns) b)

  pub stmt-If-alone : (c : FullExpr) (s : Stmt) (in_loop : Bool) (w : World)
      → of.stmt (raw.If c s None) in_loop w ≡ if_alone c (of.stmt s) in_loop w
  unfolding walked_statements
  stmt-If-alone c s in_loop w = ap (λ f. f in_loop w) (tree.stmt-If (statement_steps returns) c s None)

  pub stmt-If-else : (c : FullExpr) (s o : Stmt) (in_loop : Bool) (w : World)
      → of.stmt (raw.If c s (Some o)) in_loop w ≡ if_else c (of.stmt s) (of.stmt o) in_loop w
  unfolding walked_statements
  stmt-If-else c s o in_loop w = ap (λ f. f in_loop w) (tree.stmt-If (statement_steps returns) c s (Some o))

  pub stmt-While : (c : FullExpr) (s : Stmt) (in_loop : Bool) (w : World)
      → of.stmt (raw.While c s) in_loop w ≡ while_walked c (of.stmt s) w
  unfolding walked_statements
  stmt-While c s in_loop w = ap (λ f. f in_loop w) (tree.stmt-While (statement_steps returns) c s)

  pub stmt-Do : (s : Stmt) (c : FullExpr) (in_loop : Bool) (w : World)
      → of.stmt (raw.Do s c) in_loop w ≡ do_walked (of.stmt s) c w
  unfolding walked_statements
  stmt-Do s c in_loop w = ap (λ f. f in_loop w) (tree.stmt-Do (statement_steps returns) s c)

  pub stmt-For : (l : ForLoop) (in_loop : Bool) (w : World)
      → of.stmt (raw.For l) in_loop w ≡ for_walked (of.for_loop l) in_loop w
  unfolding walked_statements
  stmt-For l in_loop w = ap (λ f. f in_loop w) (tree.stmt-For (statement_steps returns) l)

  pub stmt-Break : (in_loop : Bool) (w : World) → of.stmt raw.Break in_loop w ≡ jump stmt.Break in_loop w
  unfolding walked_statements
  stmt-Break in_loop w = ap (λ f. f in_loop w) (tree.stmt-Break (statement_steps returns))

  pub stmt-Continue : (in_loop : Bool) (w : World) → of.stmt raw.Continue in_loop w ≡ jump stmt.Continue in_loop w
  unfolding walked_statements
  stmt-Continue in_loop w = ap (λ f. f in_loop w) (tree.stmt-Continue (statement_steps returns))

  pub stmt-Return : (o : Option FullExpr) (in_loop : Bool) (w : World)
      → of.stmt (raw.Return o) in_loop w ≡ return_walked returns o w
  unfolding walked_statements
  stmt-Return o in_loop w = ap (λ f. f in_loop w) (tree.stmt-Return (statement_steps returns) o)

  pub stmt-Expr : (o : Option FullExpr) (in_loop : Bool) (w : World)
      → of.stmt (raw.Expr o) in_loop w ≡ expr_walked o w
  unfolding walked_statements
  stmt-Expr o in_loop w = ap (λ f. f in_loop w) (tree.stmt-Expr (statement_steps returns) o)

  -- ---- blocks and `for` loops

  pub block_item-Decl : (d : Decl) (in_loop : Bool) (w : World)
      → of.block_item (block_item.Decl d) in_loop w ≡ block_item_step (BlockItem-F.Decl d) in_loop w
  unfolding walked_statements
  block_item-Decl d in_loop w = ap (λ f. f in_loop w) (tree.block_item-Decl (statement_steps returns) d)

  pub block_item-Stmt : (s : Stmt) (in_loop : Bool) (w : World)
      → of.block_item (block_item.Stmt s) in_loop w ≡ block_item_step (BlockItem-F.Stmt (of.stmt s)) in_loop w
  unfolding walked_statements
  block_item-Stmt s in_loop w = ap (λ f. f in_loop w) (tree.block_item-Stmt (statement_steps returns) s)

  pub block-of : (b : Block) (in_loop : Bool) (w : World)
      → of.block b in_loop w ≡ block_step (record { items = map of.block_item (out-Block b).items }) in_loop w
  unfolding walked_statements
  block-of b in_loop w = ap (λ f. f in_loop w) (tree.block-of (statement_steps returns) b)

  pub for_loop-of : (l : ForLoop) (in_loop : Bool) (w : World) → of.for_loop l in_loop w
      ≡ for_step (record {
        init = (out-ForLoop l).init;
        condition = (out-ForLoop l).condition;
        step = (out-ForLoop l).step;
        body = of.stmt (out-ForLoop l).body;
      }) in_loop w
  unfolding walked_statements
  for_loop-of l in_loop w = ap (λ f. f in_loop w) (tree.for_loop-of (statement_steps returns) l)

pub ruleset statements = (
  stmt-Block,
  stmt-If-alone,
  stmt-If-else,
  stmt-While,
  stmt-Do,
  stmt-For,
  stmt-Break,
  stmt-Continue,
  stmt-Return,
  stmt-Expr,
)

pub ruleset block_items = (block_item-Decl, block_item-Stmt)

pub ruleset blocks = (block-of, for_loop-of)
