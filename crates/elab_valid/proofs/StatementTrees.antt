-- Statements taken apart: what holds at every level holds here and in each part; and their code, form by form.
use Rattle.std.proofs.Common.{◌≡◌, ◌∙◌, List, [], ◌∷◌, map, Option, Some, None, subst}
use Rattle.c_typed.specs.declared.statement.TypedBlock.{TypedBlock, every-TypedBlock, every_held-TypedBlock, fold-roll-TypedBlock, map-TypedBlock, out-roll-TypedBlock, roll-TypedBlock}
use Rattle.c_typed.specs.declared.statement.TypedBlockItem.{TypedBlockItem, every-TypedBlockItem, every_here-TypedBlockItem, every_held-TypedBlockItem, fold-roll-TypedBlockItem, map-TypedBlockItem, out-roll-TypedBlockItem, roll-TypedBlockItem}
use Rattle.c_typed.specs.declared.statement.TypedBlockItem.TheOpen.{TypedBlock-F, TypedBlockItem-F, TypedForLoop-F, TypedStmt-F}
use Rattle.c_typed.specs.declared.statement.TypedForLoop.{TypedForLoop, every-TypedForLoop, every_here-TypedForLoop, every_held-TypedForLoop, fold-roll-TypedForLoop, map-TypedForLoop, out-roll-TypedForLoop, roll-TypedForLoop}
use Rattle.c_typed.specs.declared.statement.TypedStmt.{TypedStmt, every-TypedStmt, every_here-TypedStmt, every_held-TypedStmt, fold-roll-TypedStmt, map-TypedStmt, out-roll-TypedStmt, roll-TypedStmt}
use Rattle.elab_rows.specs.declared.scope.Scope.{Scope}
use Rattle.elab_pieces.specs.Lines.{PieceCode}
use Rattle.elab_pieces.specs.Statements.{block_code, block_item_code, block_item_step, block_step, for_loop_code, for_step, stmt_code, stmt_step}

abbrev pub Layer : ((A B C D : Type 0) → Type 0) → Type 0
Layer F = F TypedBlockItem TypedStmt TypedBlock TypedForLoop

-- ---- parts

abbrev pub ItemPart : (TypedStmt → Type 0) → Layer TypedBlockItem-F → Type 0
ItemPart Q (TypedBlockItem-F.Decl d) = Unit {0}
ItemPart Q (TypedBlockItem-F.Stmt s) = Q s

abbrev pub IfStmt : (TypedStmt → Type 0) → Option TypedStmt → Type 0
IfStmt Q None = Unit {0}
IfStmt Q (Some s) = Q s

abbrev pub StmtParts : (TypedStmt → Type 0) → (TypedBlock → Type 0) → (TypedForLoop → Type 0) → Layer TypedStmt-F → Type 0
StmtParts Q B F (TypedStmt-F.Block b) = B b
StmtParts Q B F (TypedStmt-F.If c s o) = Q s × IfStmt Q o
StmtParts Q B F (TypedStmt-F.While c s) = Q s
StmtParts Q B F (TypedStmt-F.Do s c) = Q s
StmtParts Q B F (TypedStmt-F.For f) = F f
StmtParts Q B F _ = Unit {0}

abbrev pub EachItem : (TypedBlockItem → Type 0) → List TypedBlockItem → Type 0
EachItem Q [] = Unit {0}
EachItem Q (i ∷ is) = Q i × EachItem Q is

-- ---- what holds at every level

module _ (I : Layer TypedBlockItem-F → Type 0) (S : Layer TypedStmt-F → Type 0) (B : Layer TypedBlock-F → Type 0) (F : Layer TypedForLoop-F → Type 0) where
  abbrev pub EveryItem : TypedBlockItem → Type 0
  EveryItem = every-TypedBlockItem I S B F

  abbrev pub EveryStmt : TypedStmt → Type 0
  EveryStmt = every-TypedStmt I S B F

  abbrev pub EveryBlock : TypedBlock → Type 0
  EveryBlock = every-TypedBlock I S B F

  abbrev pub EveryFor : TypedForLoop → Type 0
  EveryFor = every-TypedForLoop I S B F

  abbrev Held : ((A B C D : Type 0) → Type 0) → Type 0
  Held G = G ((t : TypedBlockItem) × EveryItem t) ((t : TypedStmt) × EveryStmt t) ((t : TypedBlock) × EveryBlock t) ((t : TypedForLoop) × EveryFor t)

  item-parts : (y : Held TypedBlockItem-F) → ItemPart EveryStmt (map-TypedBlockItem _ _ _ _ TypedBlockItem TypedStmt TypedBlock TypedForLoop (λ e. e.0) (λ e. e.0) (λ e. e.0) (λ e. e.0) y)
  item-parts (TypedBlockItem-F.Decl d) = tt
  item-parts (TypedBlockItem-F.Stmt s) = s.1

  stmt-parts : (y : Held TypedStmt-F) → StmtParts EveryStmt EveryBlock EveryFor (map-TypedStmt _ _ _ _ TypedBlockItem TypedStmt TypedBlock TypedForLoop (λ e. e.0) (λ e. e.0) (λ e. e.0) (λ e. e.0) y)
  stmt-parts (TypedStmt-F.Block b) = b.1
  stmt-parts (TypedStmt-F.If c s None) = (s.1, tt)
  stmt-parts (TypedStmt-F.If c s (Some o)) = (s.1, o.1)
  stmt-parts (TypedStmt-F.While c s) = s.1
  stmt-parts (TypedStmt-F.Do s c) = s.1
  stmt-parts (TypedStmt-F.For f) = f.1
  stmt-parts TypedStmt-F.Break = tt
  stmt-parts TypedStmt-F.Continue = tt
  stmt-parts (TypedStmt-F.Return e) = tt
  stmt-parts (TypedStmt-F.Expr e) = tt

  items-parts : (ys : List ((t : TypedBlockItem) × EveryItem t)) → EachItem EveryItem (map (λ (e : (t : TypedBlockItem) × EveryItem t). e.0) ys)
  items-parts [] = tt
  items-parts (y ∷ ys) = (y.1, items-parts ys)

  pub opened-item : (x : Layer TypedBlockItem-F) → EveryItem (roll-TypedBlockItem x) → I x × ItemPart EveryStmt x
  opened-item x h =
      let held = every_held-TypedBlockItem I S B F (roll-TypedBlockItem x) h in
      (subst I (out-roll-TypedBlockItem x) (every_here-TypedBlockItem I S B F (roll-TypedBlockItem x) h), subst (ItemPart EveryStmt) (held.1 ∙ out-roll-TypedBlockItem x) (item-parts held.0))

  pub opened-stmt : (x : Layer TypedStmt-F) → EveryStmt (roll-TypedStmt x) → S x × StmtParts EveryStmt EveryBlock EveryFor x
  opened-stmt x h =
      let held = every_held-TypedStmt I S B F (roll-TypedStmt x) h in
      (subst S (out-roll-TypedStmt x) (every_here-TypedStmt I S B F (roll-TypedStmt x) h), subst (StmtParts EveryStmt EveryBlock EveryFor) (held.1 ∙ out-roll-TypedStmt x) (stmt-parts held.0))

  pub opened-block : (x : Layer TypedBlock-F) → EveryBlock (roll-TypedBlock x) → EachItem EveryItem x.items
  opened-block x h =
      let held = every_held-TypedBlock I S B F (roll-TypedBlock x) h in
      subst (λ (z : Layer TypedBlock-F). EachItem EveryItem z.items) (held.1 ∙ out-roll-TypedBlock x) (items-parts held.0.items)

  pub opened-for : (x : Layer TypedForLoop-F) → EveryFor (roll-TypedForLoop x) → F x × EveryStmt x.body
  opened-for x h =
      let held = every_held-TypedForLoop I S B F (roll-TypedForLoop x) h in
      (subst F (out-roll-TypedForLoop x) (every_here-TypedForLoop I S B F (roll-TypedForLoop x) h), subst (λ (z : Layer TypedForLoop-F). EveryStmt z.body) (held.1 ∙ out-roll-TypedForLoop x) held.0.body.1)

-- ---- code

module _ (scope : Scope) where
  pub item-code : (x : Layer TypedBlockItem-F) → block_item_code scope (roll-TypedBlockItem x)
      ≡ block_item_step scope (map-TypedBlockItem _ _ _ _ _ _ _ _ (block_item_code scope) (stmt_code scope) (block_code scope) (for_loop_code scope) x)
  unfolding block_item_code stmt_code block_code for_loop_code
  item-code x = fold-roll-TypedBlockItem PieceCode PieceCode PieceCode PieceCode (block_item_step scope) (stmt_step scope) block_step (for_step scope) x

  pub stmt-code : (x : Layer TypedStmt-F) → stmt_code scope (roll-TypedStmt x)
      ≡ stmt_step scope (map-TypedStmt _ _ _ _ _ _ _ _ (block_item_code scope) (stmt_code scope) (block_code scope) (for_loop_code scope) x)
  unfolding block_item_code stmt_code block_code for_loop_code
  stmt-code x = fold-roll-TypedStmt PieceCode PieceCode PieceCode PieceCode (block_item_step scope) (stmt_step scope) block_step (for_step scope) x

  pub block-code : (x : Layer TypedBlock-F) → block_code scope (roll-TypedBlock x)
      ≡ block_step (map-TypedBlock _ _ _ _ _ _ _ _ (block_item_code scope) (stmt_code scope) (block_code scope) (for_loop_code scope) x)
  unfolding block_item_code stmt_code block_code for_loop_code
  block-code x = fold-roll-TypedBlock PieceCode PieceCode PieceCode PieceCode (block_item_step scope) (stmt_step scope) block_step (for_step scope) x

  pub for-code : (x : Layer TypedForLoop-F) → for_loop_code scope (roll-TypedForLoop x)
      ≡ for_step scope (map-TypedForLoop _ _ _ _ _ _ _ _ (block_item_code scope) (stmt_code scope) (block_code scope) (for_loop_code scope) x)
  unfolding block_item_code stmt_code block_code for_loop_code
  for-code x = fold-roll-TypedForLoop PieceCode PieceCode PieceCode PieceCode (block_item_step scope) (stmt_step scope) block_step (for_step scope) x
