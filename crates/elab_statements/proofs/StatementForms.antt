-- The code of each form of a statement, a block and a `for`.
use Rattle.std.proofs.Common.{◌≡◌, ◌∙◌, map, Option, Some, None, ap, sym}
use Rattle.std.specs.Option.{option_map}
use Rattle.c_typed.specs.declared.statement.TypedBlock.{TypedBlock, out-TypedBlock, fold_out-TypedBlock}
use Rattle.c_typed.specs.declared.statement.TypedBlockItem.{TypedBlockItem, roll-TypedBlockItem, map-TypedBlockItem, fold-roll-TypedBlockItem}
use Rattle.c_typed.specs.declared.statement.TypedBlockItem.TheOpen.{TypedBlockItem-F, TypedStmt-F}
use Rattle.c_typed.specs.declared.statement.TypedBlockItem.TheVariants as block_item
use Rattle.c_typed.specs.declared.statement.TypedDecl.{TypedDecl}
use Rattle.c_typed.specs.declared.statement.TypedForLoop.{TypedForLoop, out-TypedForLoop, fold_out-TypedForLoop}
use Rattle.c_typed.specs.declared.statement.TypedFullExpr.{TypedFullExpr}
use Rattle.c_typed.specs.declared.statement.TypedStmt.{TypedStmt, roll-TypedStmt, map-TypedStmt, fold-roll-TypedStmt}
use Rattle.c_typed.specs.declared.statement.TypedStmt.TheVariants as stmt
use Rattle.elab_rows.specs.declared.scope.Scope.{Scope}
use Rattle.elab_pieces.specs.Lines.{Breaks, Continues, all_joined, one_line}
use Rattle.elab_pieces.specs.Statements.{block_code, block_item_code, block_item_step, block_step, decl_code, do_code, expr_code, first_code, for_code, for_loop_code, for_step, if_code, if_else_code, return_code, step_code, stmt_code, stmt_step, value_of, while_code}

module _ (scope : Scope) where
  -- ---- statements

  stmt-made : (node : TypedStmt-F TypedBlockItem TypedStmt TypedBlock TypedForLoop) → stmt_code scope (roll-TypedStmt node)
      ≡ stmt_step scope (map-TypedStmt _ _ _ _ _ _ _ _ (block_item_code scope) (stmt_code scope) (block_code scope) (for_loop_code scope) node)
  unfolding stmt_code block_code block_item_code for_loop_code
  stmt-made node = fold-roll-TypedStmt _ _ _ _ (block_item_step scope) (stmt_step scope) block_step (for_step scope) node

  pub stmt-Block : (b : TypedBlock) → stmt_code scope (stmt.Block b) ≡ block_code scope b
  stmt-Block b = ap (stmt_code scope) (sym (stmt.rolls-Block b)) ∙ stmt-made (TypedStmt-F.Block b)

  pub stmt-If-alone : (c : TypedFullExpr) (s : TypedStmt)
      → stmt_code scope (stmt.If c s None) ≡ if_code (value_of scope c) (stmt_code scope s)
  stmt-If-alone c s = ap (stmt_code scope) (sym (stmt.rolls-If c s None)) ∙ stmt-made (TypedStmt-F.If c s None)

  pub stmt-If-else : (c : TypedFullExpr) (s o : TypedStmt)
      → stmt_code scope (stmt.If c s (Some o)) ≡ if_else_code (value_of scope c) (stmt_code scope s) (stmt_code scope o)
  stmt-If-else c s o = ap (stmt_code scope) (sym (stmt.rolls-If c s (Some o))) ∙ stmt-made (TypedStmt-F.If c s (Some o))

  pub stmt-While : (c : TypedFullExpr) (s : TypedStmt)
      → stmt_code scope (stmt.While c s) ≡ while_code (value_of scope c) (stmt_code scope s)
  stmt-While c s = ap (stmt_code scope) (sym (stmt.rolls-While c s)) ∙ stmt-made (TypedStmt-F.While c s)

  pub stmt-Do : (s : TypedStmt) (c : TypedFullExpr)
      → stmt_code scope (stmt.Do s c) ≡ do_code (stmt_code scope s) (value_of scope c)
  stmt-Do s c = ap (stmt_code scope) (sym (stmt.rolls-Do s c)) ∙ stmt-made (TypedStmt-F.Do s c)

  pub stmt-For : (f : TypedForLoop) → stmt_code scope (stmt.For f) ≡ for_loop_code scope f
  stmt-For f = ap (stmt_code scope) (sym (stmt.rolls-For f)) ∙ stmt-made (TypedStmt-F.For f)

  pub stmt-Break : stmt_code scope stmt.Break ≡ one_line Breaks
  stmt-Break = ap (stmt_code scope) (sym stmt.rolls-Break) ∙ stmt-made TypedStmt-F.Break

  pub stmt-Continue : stmt_code scope stmt.Continue ≡ one_line Continues
  stmt-Continue = ap (stmt_code scope) (sym stmt.rolls-Continue) ∙ stmt-made TypedStmt-F.Continue

  pub stmt-Return : (o : Option TypedFullExpr) → stmt_code scope (stmt.Return o) ≡ return_code scope o
  stmt-Return o = ap (stmt_code scope) (sym (stmt.rolls-Return o)) ∙ stmt-made (TypedStmt-F.Return o)

  pub stmt-Expr : (o : Option TypedFullExpr) → stmt_code scope (stmt.Expr o) ≡ expr_code scope o
  stmt-Expr o = ap (stmt_code scope) (sym (stmt.rolls-Expr o)) ∙ stmt-made (TypedStmt-F.Expr o)

  -- ---- blocks and `for` loops

  block_item-made : (node : TypedBlockItem-F TypedBlockItem TypedStmt TypedBlock TypedForLoop)
      → block_item_code scope (roll-TypedBlockItem node)
      ≡ block_item_step scope (map-TypedBlockItem _ _ _ _ _ _ _ _ (block_item_code scope) (stmt_code scope) (block_code scope) (for_loop_code scope) node)
  unfolding stmt_code block_code block_item_code for_loop_code
  block_item-made node = fold-roll-TypedBlockItem _ _ _ _ (block_item_step scope) (stmt_step scope) block_step (for_step scope) node

  pub block_item-Decl : (d : TypedDecl) → block_item_code scope (block_item.Decl d) ≡ decl_code scope d
  block_item-Decl d = ap (block_item_code scope) (sym (block_item.rolls-Decl d)) ∙ block_item-made (TypedBlockItem-F.Decl d)

  pub block_item-Stmt : (s : TypedStmt) → block_item_code scope (block_item.Stmt s) ≡ stmt_code scope s
  block_item-Stmt s = ap (block_item_code scope) (sym (block_item.rolls-Stmt s)) ∙ block_item-made (TypedBlockItem-F.Stmt s)

  pub block-of : (b : TypedBlock) → block_code scope b ≡ all_joined (map (block_item_code scope) (out-TypedBlock b).items)
  unfolding stmt_code block_code block_item_code for_loop_code
  block-of b = fold_out-TypedBlock _ _ _ _ (block_item_step scope) (stmt_step scope) block_step (for_step scope) b

  pub for_loop-of : (f : TypedForLoop) → for_loop_code scope f
      ≡ for_code (first_code scope (out-TypedForLoop f).init) (option_map (value_of scope) (out-TypedForLoop f).condition)
      (stmt_code scope (out-TypedForLoop f).body) (step_code scope (out-TypedForLoop f).step)
  unfolding stmt_code block_code block_item_code for_loop_code
  for_loop-of f = fold_out-TypedForLoop _ _ _ _ (block_item_step scope) (stmt_step scope) block_step (for_step scope) f

pub ruleset statements = (
  stmt-Block,
  stmt-If-alone,
  stmt-If-else,
  stmt-While,
  stmt-Do,
  stmt-For,
  stmt-Break,
  stmt-Continue,
  stmt-Return,
  stmt-Expr,
)

pub ruleset block_items = (block_item-Decl, block_item-Stmt)

pub ruleset blocks = (block-of, for_loop-of)
