-- Statements each of whose types passes are those whose parts are such.
use Rattle.std.proofs.Common.{Bool, List, map, Option, Some, None, refl, subst}
use Rattle.std.specs.List.{AllByRecursion}
use Rattle.c_types.specs.declared.ty.Ty.{Ty}
use Rattle.c_typed.specs.declared.statement.TypedBlock.{TypedBlock, every_made-TypedBlock, roll-TypedBlock}
use Rattle.c_typed.specs.declared.statement.TypedBlockItem.{TypedBlockItem, every-TypedBlockItem, every_made-TypedBlockItem}
use Rattle.c_typed.specs.declared.statement.TypedBlockItem.TheOpen.{TypedBlockItem-F, TypedStmt-F}
use Rattle.c_typed.specs.declared.statement.TypedBlockItem.TheVariants as block_item
use Rattle.c_typed.specs.declared.statement.TypedDecl.{TypedDecl}
use Rattle.c_typed.specs.declared.statement.TypedForInit.{TypedForInit}
use Rattle.c_typed.specs.declared.statement.TypedForLoop.{TypedForLoop, every-TypedForLoop, every_made-TypedForLoop, roll-TypedForLoop}
use Rattle.c_typed.specs.declared.statement.TypedFullExpr.{TypedFullExpr}
use Rattle.c_typed.specs.declared.statement.TypedStmt.{TypedStmt, every-TypedStmt, every_made-TypedStmt}
use Rattle.c_typed.specs.declared.statement.TypedStmt.TheVariants as stmt
use Rattle.c_typed_rows.specs.Types.{BlockItemLevel, BlockTypes, ForInitTypes, ForLevel, OptionalTypes, StmtLevel}
use Rattle.c_typing_types.proofs.TypedParts.{of_held}

module _ (fits : Ty → Bool) where
  pub BlockItemTypes : TypedBlockItem → Type 0
  BlockItemTypes = every-TypedBlockItem (BlockItemLevel fits) (StmtLevel fits) (λ _. Unit {0}) (ForLevel fits)

  pub StmtTypes : TypedStmt → Type 0
  StmtTypes = every-TypedStmt (BlockItemLevel fits) (StmtLevel fits) (λ _. Unit {0}) (ForLevel fits)

  pub ForTypes : TypedForLoop → Type 0
  ForTypes = every-TypedForLoop (BlockItemLevel fits) (StmtLevel fits) (λ _. Unit {0}) (ForLevel fits)

-- ---- each form

module _ (fits : Ty → Bool) where
  pub stmt-Block : (b : TypedBlock) → BlockTypes fits b → StmtLevel fits (TypedStmt-F.Block b) → StmtTypes fits (stmt.Block b)
  unfolding BlockItemTypes StmtTypes BlockTypes ForTypes
  stmt-Block b hb level = subst (StmtTypes fits) (stmt.rolls-Block b) (every_made-TypedStmt (BlockItemLevel fits) (StmtLevel fits) (λ _. Unit {0}) (ForLevel fits) (TypedStmt-F.Block b) (TypedStmt-F.Block (b, hb)) refl level)

  pub stmt-if_alone : (c : TypedFullExpr) (s : TypedStmt) → StmtTypes fits s → StmtLevel fits (TypedStmt-F.If c s None) → StmtTypes fits (stmt.If c s None)
  unfolding BlockItemTypes StmtTypes BlockTypes ForTypes
  stmt-if_alone c s hs level = subst (StmtTypes fits) (stmt.rolls-If c s None) (every_made-TypedStmt (BlockItemLevel fits) (StmtLevel fits) (λ _. Unit {0}) (ForLevel fits) (TypedStmt-F.If c s None) (TypedStmt-F.If c (s, hs) None) refl level)

  pub stmt-if_else : (c : TypedFullExpr) (s : TypedStmt) (o : TypedStmt) → StmtTypes fits s → StmtTypes fits o → StmtLevel fits (TypedStmt-F.If c s (Some o)) → StmtTypes fits (stmt.If c s (Some o))
  unfolding BlockItemTypes StmtTypes BlockTypes ForTypes
  stmt-if_else c s o hs ho level = subst (StmtTypes fits) (stmt.rolls-If c s (Some o)) (every_made-TypedStmt (BlockItemLevel fits) (StmtLevel fits) (λ _. Unit {0}) (ForLevel fits) (TypedStmt-F.If c s (Some o)) (TypedStmt-F.If c (s, hs) (Some (o, ho))) refl level)

  pub stmt-While : (c : TypedFullExpr) (s : TypedStmt) → StmtTypes fits s → StmtLevel fits (TypedStmt-F.While c s) → StmtTypes fits (stmt.While c s)
  unfolding BlockItemTypes StmtTypes BlockTypes ForTypes
  stmt-While c s hs level = subst (StmtTypes fits) (stmt.rolls-While c s) (every_made-TypedStmt (BlockItemLevel fits) (StmtLevel fits) (λ _. Unit {0}) (ForLevel fits) (TypedStmt-F.While c s) (TypedStmt-F.While c (s, hs)) refl level)

  pub stmt-Do : (s : TypedStmt) (c : TypedFullExpr) → StmtTypes fits s → StmtLevel fits (TypedStmt-F.Do s c) → StmtTypes fits (stmt.Do s c)
  unfolding BlockItemTypes StmtTypes BlockTypes ForTypes
  stmt-Do s c hs level = subst (StmtTypes fits) (stmt.rolls-Do s c) (every_made-TypedStmt (BlockItemLevel fits) (StmtLevel fits) (λ _. Unit {0}) (ForLevel fits) (TypedStmt-F.Do s c) (TypedStmt-F.Do (s, hs) c) refl level)

  pub stmt-For : (f : TypedForLoop) → ForTypes fits f → StmtLevel fits (TypedStmt-F.For f) → StmtTypes fits (stmt.For f)
  unfolding BlockItemTypes StmtTypes BlockTypes ForTypes
  stmt-For f hf level = subst (StmtTypes fits) (stmt.rolls-For f) (every_made-TypedStmt (BlockItemLevel fits) (StmtLevel fits) (λ _. Unit {0}) (ForLevel fits) (TypedStmt-F.For f) (TypedStmt-F.For (f, hf)) refl level)

  pub stmt-Break : StmtLevel fits TypedStmt-F.Break → StmtTypes fits stmt.Break
  unfolding BlockItemTypes StmtTypes BlockTypes ForTypes
  stmt-Break level = subst (StmtTypes fits) stmt.rolls-Break (every_made-TypedStmt (BlockItemLevel fits) (StmtLevel fits) (λ _. Unit {0}) (ForLevel fits) TypedStmt-F.Break TypedStmt-F.Break refl level)

  pub stmt-Continue : StmtLevel fits TypedStmt-F.Continue → StmtTypes fits stmt.Continue
  unfolding BlockItemTypes StmtTypes BlockTypes ForTypes
  stmt-Continue level = subst (StmtTypes fits) stmt.rolls-Continue (every_made-TypedStmt (BlockItemLevel fits) (StmtLevel fits) (λ _. Unit {0}) (ForLevel fits) TypedStmt-F.Continue TypedStmt-F.Continue refl level)

  pub stmt-Return : (o : Option TypedFullExpr) → StmtLevel fits (TypedStmt-F.Return o) → StmtTypes fits (stmt.Return o)
  unfolding BlockItemTypes StmtTypes BlockTypes ForTypes
  stmt-Return o level = subst (StmtTypes fits) (stmt.rolls-Return o) (every_made-TypedStmt (BlockItemLevel fits) (StmtLevel fits) (λ _. Unit {0}) (ForLevel fits) (TypedStmt-F.Return o) (TypedStmt-F.Return o) refl level)

  pub stmt-Expr : (o : Option TypedFullExpr) → StmtLevel fits (TypedStmt-F.Expr o) → StmtTypes fits (stmt.Expr o)
  unfolding BlockItemTypes StmtTypes BlockTypes ForTypes
  stmt-Expr o level = subst (StmtTypes fits) (stmt.rolls-Expr o) (every_made-TypedStmt (BlockItemLevel fits) (StmtLevel fits) (λ _. Unit {0}) (ForLevel fits) (TypedStmt-F.Expr o) (TypedStmt-F.Expr o) refl level)

  pub item-Decl : (d : TypedDecl) → BlockItemLevel fits (TypedBlockItem-F.Decl d) → BlockItemTypes fits (block_item.Decl d)
  unfolding BlockItemTypes StmtTypes BlockTypes ForTypes
  item-Decl d level = subst (BlockItemTypes fits) (block_item.rolls-Decl d) (every_made-TypedBlockItem (BlockItemLevel fits) (StmtLevel fits) (λ _. Unit {0}) (ForLevel fits) (TypedBlockItem-F.Decl d) (TypedBlockItem-F.Decl d) refl level)

  pub item-Stmt : (s : TypedStmt) → StmtTypes fits s → BlockItemLevel fits (TypedBlockItem-F.Stmt s) → BlockItemTypes fits (block_item.Stmt s)
  unfolding BlockItemTypes StmtTypes BlockTypes ForTypes
  item-Stmt s hs level = subst (BlockItemTypes fits) (block_item.rolls-Stmt s) (every_made-TypedBlockItem (BlockItemLevel fits) (StmtLevel fits) (λ _. Unit {0}) (ForLevel fits) (TypedBlockItem-F.Stmt s) (TypedBlockItem-F.Stmt (s, hs)) refl level)

  pub block-of : (hs : List ((x : TypedBlockItem) × BlockItemTypes fits x)) → BlockTypes fits (roll-TypedBlock (record { items = map (λ h. h.0) hs }))
  unfolding BlockItemTypes StmtTypes BlockTypes ForTypes
  block-of hs = every_made-TypedBlock (BlockItemLevel fits) (StmtLevel fits) (λ _. Unit {0}) (ForLevel fits) (record { items = map (λ h. h.0) hs }) (record { items = hs }) refl tt

  pub block-made : (xs : List TypedBlockItem) → AllByRecursion (BlockItemTypes fits) xs → BlockTypes fits (roll-TypedBlock (record { items = xs }))
  block-made xs hs = of_held (BlockItemTypes fits) (λ ys. BlockTypes fits (roll-TypedBlock (record { items = ys }))) block-of xs hs

  pub for-made : (i : TypedForInit) (c s : Option TypedFullExpr) (b : TypedStmt) → ForInitTypes fits i → OptionalTypes fits c → OptionalTypes fits s → StmtTypes fits b
      → ForTypes fits (roll-TypedForLoop (record { init = i; condition = c; step = s; body = b }))
  unfolding BlockItemTypes StmtTypes BlockTypes ForTypes
  for-made i c s b hi hc hs hb = every_made-TypedForLoop (BlockItemLevel fits) (StmtLevel fits) (λ _. Unit {0}) (ForLevel fits) (record { init = i; condition = c; step = s; body = b }) (record { init = i; condition = c; step = s; body = (b, hb) }) refl
      (record { init = hi; condition = hc; step = hs })
