-- What stands in a source, of each form of its typed statements.
use Rattle.std.proofs.Common.{◌≡◌, ◌∙◌, List, map, Option, Some, None, ap, sym}
use Rattle.std.specs.Option.{option_map}
use Rattle.c_tree.specs.declared.statement.BlockItem.{BlockItem}
use Rattle.c_tree.specs.declared.statement.Stmt.{Stmt}
use Rattle.c_tree.specs.declared.statement.Block.{roll-Block}
use Rattle.c_tree.specs.declared.statement.ForLoop.{ForLoop, roll-ForLoop}
use Rattle.c_tree.specs.declared.statement.Stmt.TheVariants as stmt
use Rattle.c_tree.specs.declared.statement.BlockItem.TheVariants as block_item
use Rattle.c_typed.specs.declared.statement.TypedBlockItem.{TypedBlockItem, roll-TypedBlockItem, map-TypedBlockItem, fold-TypedBlockItem, fold-roll-TypedBlockItem}
use Rattle.c_typed.specs.declared.statement.TypedStmt.{TypedStmt, roll-TypedStmt, map-TypedStmt, fold-TypedStmt, fold-roll-TypedStmt}
use Rattle.c_typed.specs.declared.statement.TypedBlock.{TypedBlock, roll-TypedBlock, fold-roll-TypedBlock}
use Rattle.c_typed.specs.declared.statement.TypedForLoop.{TypedForLoop, roll-TypedForLoop, fold-TypedForLoop, fold-roll-TypedForLoop}
use Rattle.c_typed.specs.declared.statement.TypedBlockItem.TheOpen.{TypedBlockItem-F, TypedStmt-F}
use Rattle.c_typed.specs.declared.statement.TypedBlockItem.TheVariants as typed_block_item
use Rattle.c_typed.specs.declared.statement.TypedStmt.TheVariants as typed_stmt
use Rattle.c_typed.specs.declared.statement.TypedDecl.{TypedDecl}
use Rattle.c_typed.specs.declared.statement.TypedForInit.{TypedForInit}
use Rattle.c_typed.specs.declared.statement.TypedFullExpr.{TypedFullExpr}
use Rattle.c_typed.specs.Erased.{erased_block, erased_block_item, erased_block_node, erased_decl, erased_for_init, erased_for_loop, erased_full, erased_stmt}

unfoldable pub block_item_tree : TypedBlockItem → BlockItem
block_item_tree = fold-TypedBlockItem _ _ _ _ erased_block_item erased_stmt erased_block_node erased_for_loop

unfoldable pub stmt_tree : TypedStmt → Stmt
stmt_tree = fold-TypedStmt _ _ _ _ erased_block_item erased_stmt erased_block_node erased_for_loop

unfoldable pub for_loop_tree : TypedForLoop → ForLoop
for_loop_tree = fold-TypedForLoop _ _ _ _ erased_block_item erased_stmt erased_block_node erased_for_loop

-- a layer, with trees in place of its parts
abbrev Layer : ((A B C D : Type 0) → Type 0) → Type 0
Layer F = F TypedBlockItem TypedStmt TypedBlock TypedForLoop

stmt-made : (node : Layer TypedStmt-F) → stmt_tree (roll-TypedStmt node)
    ≡ erased_stmt (map-TypedStmt _ _ _ _ _ _ _ _ block_item_tree stmt_tree erased_block for_loop_tree node)
unfolding block_item_tree stmt_tree erased_block for_loop_tree
stmt-made node = fold-roll-TypedStmt _ _ _ _ erased_block_item erased_stmt erased_block_node erased_for_loop node

pub stmt-Block : (b : TypedBlock) → stmt_tree (typed_stmt.Block b) ≡ stmt.Block (erased_block b)
stmt-Block b = ap stmt_tree (sym (typed_stmt.rolls-Block b)) ∙ stmt-made (TypedStmt-F.Block b)

pub stmt-if_alone : (c : TypedFullExpr) (s : TypedStmt) → stmt_tree (typed_stmt.If c s None) ≡ stmt.If (erased_full c) (stmt_tree s) None
stmt-if_alone c s = ap stmt_tree (sym (typed_stmt.rolls-If c s None)) ∙ stmt-made (TypedStmt-F.If c s None)

pub stmt-if_else : (c : TypedFullExpr) (s o : TypedStmt) → stmt_tree (typed_stmt.If c s (Some o)) ≡ stmt.If (erased_full c) (stmt_tree s) (Some (stmt_tree o))
stmt-if_else c s o = ap stmt_tree (sym (typed_stmt.rolls-If c s (Some o))) ∙ stmt-made (TypedStmt-F.If c s (Some o))

pub stmt-While : (c : TypedFullExpr) (s : TypedStmt) → stmt_tree (typed_stmt.While c s) ≡ stmt.While (erased_full c) (stmt_tree s)
stmt-While c s = ap stmt_tree (sym (typed_stmt.rolls-While c s)) ∙ stmt-made (TypedStmt-F.While c s)

pub stmt-Do : (s : TypedStmt) (c : TypedFullExpr) → stmt_tree (typed_stmt.Do s c) ≡ stmt.Do (stmt_tree s) (erased_full c)
stmt-Do s c = ap stmt_tree (sym (typed_stmt.rolls-Do s c)) ∙ stmt-made (TypedStmt-F.Do s c)

pub stmt-For : (f : TypedForLoop) → stmt_tree (typed_stmt.For f) ≡ stmt.For (for_loop_tree f)
stmt-For f = ap stmt_tree (sym (typed_stmt.rolls-For f)) ∙ stmt-made (TypedStmt-F.For f)

pub stmt-Break : stmt_tree typed_stmt.Break ≡ stmt.Break
stmt-Break = ap stmt_tree (sym typed_stmt.rolls-Break) ∙ stmt-made TypedStmt-F.Break

pub stmt-Continue : stmt_tree typed_stmt.Continue ≡ stmt.Continue
stmt-Continue = ap stmt_tree (sym typed_stmt.rolls-Continue) ∙ stmt-made TypedStmt-F.Continue

pub stmt-Return : (o : Option TypedFullExpr) → stmt_tree (typed_stmt.Return o) ≡ stmt.Return (option_map erased_full o)
stmt-Return o = ap stmt_tree (sym (typed_stmt.rolls-Return o)) ∙ stmt-made (TypedStmt-F.Return o)

pub stmt-Expr : (o : Option TypedFullExpr) → stmt_tree (typed_stmt.Expr o) ≡ stmt.Expr (option_map erased_full o)
stmt-Expr o = ap stmt_tree (sym (typed_stmt.rolls-Expr o)) ∙ stmt-made (TypedStmt-F.Expr o)

block_item-made : (node : Layer TypedBlockItem-F) → block_item_tree (roll-TypedBlockItem node)
    ≡ erased_block_item (map-TypedBlockItem _ _ _ _ _ _ _ _ block_item_tree stmt_tree erased_block for_loop_tree node)
unfolding block_item_tree stmt_tree erased_block for_loop_tree
block_item-made node = fold-roll-TypedBlockItem _ _ _ _ erased_block_item erased_stmt erased_block_node erased_for_loop node

pub block_item-Decl : (d : TypedDecl) → block_item_tree (typed_block_item.Decl d) ≡ block_item.Decl (erased_decl d)
block_item-Decl d = ap block_item_tree (sym (typed_block_item.rolls-Decl d)) ∙ block_item-made (TypedBlockItem-F.Decl d)

pub block_item-Stmt : (s : TypedStmt) → block_item_tree (typed_block_item.Stmt s) ≡ block_item.Stmt (stmt_tree s)
block_item-Stmt s = ap block_item_tree (sym (typed_block_item.rolls-Stmt s)) ∙ block_item-made (TypedBlockItem-F.Stmt s)

pub block-made : (items : List TypedBlockItem) → erased_block (roll-TypedBlock (record { items = items }))
    ≡ roll-Block (record { items = map block_item_tree items })
unfolding block_item_tree stmt_tree erased_block for_loop_tree
block-made items = fold-roll-TypedBlock _ _ _ _ erased_block_item erased_stmt erased_block_node erased_for_loop (record { items = items })

pub for_loop-made : (i : TypedForInit) (c s : Option TypedFullExpr) (body : TypedStmt)
    → for_loop_tree (roll-TypedForLoop (record { init = i; condition = c; step = s; body = body }))
    ≡ roll-ForLoop (record { init = erased_for_init i; condition = option_map erased_full c; step = option_map erased_full s; body = stmt_tree body })
unfolding block_item_tree stmt_tree erased_block for_loop_tree
for_loop-made i c s body = fold-roll-TypedForLoop _ _ _ _ erased_block_item erased_stmt erased_block_node erased_for_loop (record { init = i; condition = c; step = s; body = body })
