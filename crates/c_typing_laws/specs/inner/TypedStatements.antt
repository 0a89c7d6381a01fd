-- Statements whose every level meets its row.
use Rattle.c_typed.specs.declared.statement.TypedBlockItem.{TypedBlockItem, every-TypedBlockItem}
use Rattle.c_typed.specs.declared.statement.TypedForLoop.{TypedForLoop, every-TypedForLoop}
use Rattle.c_typed.specs.declared.statement.TypedStmt.{TypedStmt, every-TypedStmt}
use Rattle.c_typed_rows.specs.Contexts.{Context}
use Rattle.c_typed_rows.specs.Statements.{BlockItemLevel, ForLevel, StmtLevel}

unfoldable pub IsTypedBlockItem : Context → TypedBlockItem → Type 0
IsTypedBlockItem k = every-TypedBlockItem (BlockItemLevel k) (StmtLevel k) (λ _. Unit {0}) (ForLevel k)

unfoldable pub IsTypedStmt : Context → TypedStmt → Type 0
IsTypedStmt k = every-TypedStmt (BlockItemLevel k) (StmtLevel k) (λ _. Unit {0}) (ForLevel k)

unfoldable pub IsTypedForLoop : Context → TypedForLoop → Type 0
IsTypedForLoop k = every-TypedForLoop (BlockItemLevel k) (StmtLevel k) (λ _. Unit {0}) (ForLevel k)
