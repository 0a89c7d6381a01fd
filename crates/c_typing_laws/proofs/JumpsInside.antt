-- Each `break` and `continue` of a function's block stands in a loop of it.
use Rattle.std.proofs.Common.{◌≡◌, ◌∙◌, Bool, true, false, ◌||◌, List, [], ◌∷◌, map, Option, Some, None, refl, ap, sym, subst}
use Rattle.std.specs.List.{list_any}
use Rattle.c_types.specs.declared.ty.Ty.{Ty}
use Rattle.c_tree.specs.declared.statement.BlockItem.{BlockItem, roll-BlockItem, map-BlockItem, fold-roll-BlockItem}
use Rattle.c_tree.specs.declared.statement.Stmt.{Stmt, roll-Stmt, map-Stmt, fold-roll-Stmt}
use Rattle.c_tree.specs.declared.statement.Block.{Block, roll-Block, map-Block, fold-roll-Block, ind-Block}
use Rattle.c_tree.specs.declared.statement.ForLoop.{ForLoop}
use Rattle.c_tree.specs.declared.statement.BlockItem.TheOpen.{Block-F, BlockItem-F, Stmt-F}
use Rattle.c_tree.specs.FoldStatements.{PlainStatements, StatementNode, fold_statements}
use Rattle.c_typed.specs.declared.statement.TypedBlock.{TypedBlock, roll-TypedBlock, fold-roll-TypedBlock}
use Rattle.c_typed.specs.declared.statement.TypedBlockItem.{TypedBlockItem, roll-TypedBlockItem, map-TypedBlockItem, fold-TypedBlockItem, fold-roll-TypedBlockItem}
use Rattle.c_typed.specs.declared.statement.TypedBlockItem.TheOpen.{TypedBlockItem-F, TypedStmt-F}
use Rattle.c_typed.specs.declared.statement.TypedBlockItem.TheVariants as block_item
use Rattle.c_typed.specs.declared.statement.TypedDecl.{TypedDecl}
use Rattle.c_typed.specs.declared.statement.TypedForLoop.{TypedForLoop, fold-TypedForLoop}
use Rattle.c_typed.specs.declared.statement.TypedFullExpr.{TypedFullExpr}
use Rattle.c_typed.specs.declared.statement.TypedStmt.{TypedStmt, roll-TypedStmt, map-TypedStmt, fold-TypedStmt, fold-roll-TypedStmt}
use Rattle.c_typed.specs.declared.statement.TypedStmt.TheVariants as stmt
use Rattle.c_scope.specs.declared.world.World.{World}
use Rattle.c_scope.specs.Scopes.{within}
use Rattle.c_scope.specs.Walk.{Walk}
use Rattle.c_declaration_typing.specs.Declarations.{typed_decl}
use Rattle.c_typing.specs.Statements.{block_item_step, block_items, block_step, branches, condition, for_step, optional, returned_rules, stmt_step, walked_statements}
use Rattle.c_typed_rows.specs.Statements.{block_item_jumps, block_jumps, jumps_out, stmt_jumps}
use Rattle.c_typing_laws.specs.inner.Yields.{Yields, after, at_once, inside_scope, never, whatever}

-- ---- typed statements

unfoldable item_jumps_out : TypedBlockItem → Bool
item_jumps_out = fold-TypedBlockItem Bool Bool Bool Bool block_item_jumps stmt_jumps block_jumps (λ f. false)

unfoldable stmt_jumps_out : TypedStmt → Bool
stmt_jumps_out = fold-TypedStmt Bool Bool Bool Bool block_item_jumps stmt_jumps block_jumps (λ f. false)

unfoldable for_jumps_out : TypedForLoop → Bool
for_jumps_out = fold-TypedForLoop Bool Bool Bool Bool block_item_jumps stmt_jumps block_jumps (λ f. false)

abbrev Layer : ((A B C D : Type 0) → Type 0) → Type 0
Layer F = F TypedBlockItem TypedStmt TypedBlock TypedForLoop

stmt-made : (node : Layer TypedStmt-F) → stmt_jumps_out (roll-TypedStmt node)
    ≡ stmt_jumps (map-TypedStmt _ _ _ _ _ _ _ _ item_jumps_out stmt_jumps_out jumps_out for_jumps_out node)
unfolding item_jumps_out stmt_jumps_out jumps_out for_jumps_out
stmt-made node = fold-roll-TypedStmt Bool Bool Bool Bool block_item_jumps stmt_jumps block_jumps (λ f. false) node

stmt-Block : (b : TypedBlock) → stmt_jumps_out (stmt.Block b) ≡ jumps_out b
stmt-Block b = ap stmt_jumps_out (sym (stmt.rolls-Block b)) ∙ stmt-made (TypedStmt-F.Block b)

stmt-if_alone : (c : TypedFullExpr) (s : TypedStmt) → stmt_jumps_out (stmt.If c s None) ≡ stmt_jumps_out s
stmt-if_alone c s = ap stmt_jumps_out (sym (stmt.rolls-If c s None)) ∙ stmt-made (TypedStmt-F.If c s None)

stmt-if_else : (c : TypedFullExpr) (s o : TypedStmt) → stmt_jumps_out (stmt.If c s (Some o)) ≡ (stmt_jumps_out s || stmt_jumps_out o)
stmt-if_else c s o = ap stmt_jumps_out (sym (stmt.rolls-If c s (Some o))) ∙ stmt-made (TypedStmt-F.If c s (Some o))

stmt-While : (c : TypedFullExpr) (s : TypedStmt) → stmt_jumps_out (stmt.While c s) ≡ false
stmt-While c s = ap stmt_jumps_out (sym (stmt.rolls-While c s)) ∙ stmt-made (TypedStmt-F.While c s)

stmt-Do : (s : TypedStmt) (c : TypedFullExpr) → stmt_jumps_out (stmt.Do s c) ≡ false
stmt-Do s c = ap stmt_jumps_out (sym (stmt.rolls-Do s c)) ∙ stmt-made (TypedStmt-F.Do s c)

stmt-For : (f : TypedForLoop) → stmt_jumps_out (stmt.For f) ≡ false
stmt-For f = ap stmt_jumps_out (sym (stmt.rolls-For f)) ∙ stmt-made (TypedStmt-F.For f)

stmt-Return : (o : Option TypedFullExpr) → stmt_jumps_out (stmt.Return o) ≡ false
stmt-Return o = ap stmt_jumps_out (sym (stmt.rolls-Return o)) ∙ stmt-made (TypedStmt-F.Return o)

stmt-Expr : (o : Option TypedFullExpr) → stmt_jumps_out (stmt.Expr o) ≡ false
stmt-Expr o = ap stmt_jumps_out (sym (stmt.rolls-Expr o)) ∙ stmt-made (TypedStmt-F.Expr o)

item-made : (node : Layer TypedBlockItem-F) → item_jumps_out (roll-TypedBlockItem node)
    ≡ block_item_jumps (map-TypedBlockItem _ _ _ _ _ _ _ _ item_jumps_out stmt_jumps_out jumps_out for_jumps_out node)
unfolding item_jumps_out stmt_jumps_out jumps_out for_jumps_out
item-made node = fold-roll-TypedBlockItem Bool Bool Bool Bool block_item_jumps stmt_jumps block_jumps (λ f. false) node

item-Decl : (d : TypedDecl) → item_jumps_out (block_item.Decl d) ≡ false
item-Decl d = ap item_jumps_out (sym (block_item.rolls-Decl d)) ∙ item-made (TypedBlockItem-F.Decl d)

item-Stmt : (s : TypedStmt) → item_jumps_out (block_item.Stmt s) ≡ stmt_jumps_out s
item-Stmt s = ap item_jumps_out (sym (block_item.rolls-Stmt s)) ∙ item-made (TypedBlockItem-F.Stmt s)

block-made : (is : List TypedBlockItem) → jumps_out (roll-TypedBlock (record { items = is })) ≡ list_any (λ b. b) (map item_jumps_out is)
unfolding item_jumps_out stmt_jumps_out jumps_out for_jumps_out
block-made is = fold-roll-TypedBlock Bool Bool Bool Bool block_item_jumps stmt_jumps block_jumps (λ f. false) (record { items = is })

neither : (a b : Bool) → a ≡ false → b ≡ false → (a || b) ≡ false
neither true b first second = cc
neither false b first second = second

-- ---- walks outside loops, in a function that returns this

module _ (returns : Ty) where
  abbrev InsideBlockItem : BlockItem → Type 0
  InsideBlockItem t = (w : World) → Yields ((walked_statements returns).block_item t false w) (λ x. item_jumps_out x ≡ false)

  abbrev InsideStmt : Stmt → Type 0
  InsideStmt t = (w : World) → Yields ((walked_statements returns).stmt t false w) (λ x. stmt_jumps_out x ≡ false)

  abbrev InsideBlock : Block → Type 0
  InsideBlock t = (w : World) → Yields ((walked_statements returns).block t false w) (λ x. jumps_out x ≡ false)

  abbrev HeldBlockItem : Type 0
  HeldBlockItem = (t : BlockItem) × InsideBlockItem t

  abbrev HeldStmt : Type 0
  HeldStmt = (t : Stmt) × InsideStmt t

  abbrev HeldBlock : Type 0
  HeldBlock = (t : Block) × InsideBlock t

  abbrev HeldFor : Type 0
  HeldFor = (t : ForLoop) × Unit {0}

  abbrev Held : ((A B C D : Type 0) → Type 0) → Type 0
  Held F = F HeldBlockItem HeldStmt HeldBlock HeldFor

  abbrev bare_block_item : Held BlockItem-F → StatementNode PlainStatements BlockItem-F
  bare_block_item = map-BlockItem HeldBlockItem HeldStmt HeldBlock HeldFor BlockItem Stmt Block ForLoop (λ e. e.0) (λ e. e.0) (λ e. e.0) (λ e. e.0)

  abbrev bare_stmt : Held Stmt-F → StatementNode PlainStatements Stmt-F
  bare_stmt = map-Stmt HeldBlockItem HeldStmt HeldBlock HeldFor BlockItem Stmt Block ForLoop (λ e. e.0) (λ e. e.0) (λ e. e.0) (λ e. e.0)

  abbrev bare_block : Held Block-F → StatementNode PlainStatements Block-F
  bare_block = map-Block HeldBlockItem HeldStmt HeldBlock HeldFor BlockItem Stmt Block ForLoop (λ e. e.0) (λ e. e.0) (λ e. e.0) (λ e. e.0)

  walked-block_item : (node : StatementNode PlainStatements BlockItem-F) → (walked_statements returns).block_item (roll-BlockItem node)
      ≡ block_item_step (map-BlockItem _ _ _ _ _ _ _ _ (walked_statements returns).block_item (walked_statements returns).stmt (walked_statements returns).block (walked_statements returns).for_loop node)
  unfolding walked_statements fold_statements
  walked-block_item node = fold-roll-BlockItem _ _ _ _ block_item_step (stmt_step returns) block_step for_step node

  walked-stmt : (node : StatementNode PlainStatements Stmt-F) → (walked_statements returns).stmt (roll-Stmt node)
      ≡ stmt_step returns (map-Stmt _ _ _ _ _ _ _ _ (walked_statements returns).block_item (walked_statements returns).stmt (walked_statements returns).block (walked_statements returns).for_loop node)
  unfolding walked_statements fold_statements
  walked-stmt node = fold-roll-Stmt _ _ _ _ block_item_step (stmt_step returns) block_step for_step node

  walked-block : (node : StatementNode PlainStatements Block-F) → (walked_statements returns).block (roll-Block node)
      ≡ block_step (map-Block _ _ _ _ _ _ _ _ (walked_statements returns).block_item (walked_statements returns).stmt (walked_statements returns).block (walked_statements returns).for_loop node)
  unfolding walked_statements fold_statements
  walked-block node = fold-roll-Block _ _ _ _ block_item_step (stmt_step returns) block_step for_step node

  along : {A : Type 0} (Q : A → Type 0) {p q : Bool → Walk A} (w : World) → p ≡ q → Yields (q false w) Q → Yields (p false w) Q
  along {A} Q {p} {q} w walks holds = subst (λ (f : Bool → Walk A). Yields (f false w) Q) (sym walks) holds

  abbrev StmtInside : TypedStmt → Type 0
  StmtInside x = stmt_jumps_out x ≡ false

  branches-inside : (s o : HeldStmt) (w : World)
      → Yields (branches ((walked_statements returns).stmt s.0) ((walked_statements returns).stmt o.0) false w) (λ r. (stmt_jumps_out r.0 ≡ false) × (stmt_jumps_out r.1 ≡ false))
  branches-inside s o w =
      after ((walked_statements returns).stmt s.0 false w) _ (s.1 w) (λ y v first.
      after ((walked_statements returns).stmt o.0 false v) _ (o.1 v) (λ z u second.
      at_once (first, second)))

  stmt-inside : (y : Held Stmt-F) → InsideStmt (roll-Stmt (bare_stmt y))
  stmt-inside (Stmt-F.Block b) = λ w. along StmtInside w (walked-stmt (Stmt-F.Block b.0))
      (after _ _ (inside_scope ((walked_statements returns).block b.0 false) b.1 w) (λ x v is. at_once (stmt-Block x ∙ is)))
  stmt-inside (Stmt-F.If c s None) = λ w. along StmtInside w (walked-stmt (Stmt-F.If c s.0 None))
      (whatever (condition c w) _ (λ x v.
      after _ _ (s.1 v) (λ y u is.
      at_once (stmt-if_alone x y ∙ is))))
  stmt-inside (Stmt-F.If c s (Some o)) = λ w. along StmtInside w (walked-stmt (Stmt-F.If c s.0 (Some o.0)))
      (whatever (condition c w) _ (λ x v.
      after _ _ (branches-inside s o v) (λ b u is.
      at_once (stmt-if_else x b.0 b.1 ∙ neither (stmt_jumps_out b.0) (stmt_jumps_out b.1) is.0 is.1))))
  stmt-inside (Stmt-F.While c s) = λ w. along StmtInside w (walked-stmt (Stmt-F.While c s.0))
      (whatever (condition c w) _ (λ x v.
      whatever ((walked_statements returns).stmt s.0 true v) _ (λ y u.
      at_once (stmt-While x y))))
  stmt-inside (Stmt-F.Do s c) = λ w. along StmtInside w (walked-stmt (Stmt-F.Do s.0 c))
      (whatever ((walked_statements returns).stmt s.0 true w) _ (λ y v.
      whatever (condition c v) _ (λ x u.
      at_once (stmt-Do y x))))
  stmt-inside (Stmt-F.For f) = λ w. along StmtInside w (walked-stmt (Stmt-F.For f.0))
      (whatever (within ((walked_statements returns).for_loop f.0 false) w) _ (λ x v. at_once (stmt-For x)))
  stmt-inside Stmt-F.Break = λ w. along StmtInside w (walked-stmt Stmt-F.Break) never
  stmt-inside Stmt-F.Continue = λ w. along StmtInside w (walked-stmt Stmt-F.Continue) never
  stmt-inside (Stmt-F.Return o) = λ w. along StmtInside w (walked-stmt (Stmt-F.Return o))
      (whatever (optional o w) _ (λ x v.
      whatever (returned_rules returns x v) _ (λ _ u.
      at_once (stmt-Return x))))
  stmt-inside (Stmt-F.Expr o) = λ w. along StmtInside w (walked-stmt (Stmt-F.Expr o))
      (whatever (optional o w) _ (λ x v. at_once (stmt-Expr x)))

  abbrev ItemInside : TypedBlockItem → Type 0
  ItemInside x = item_jumps_out x ≡ false

  block_item-inside : (y : Held BlockItem-F) → InsideBlockItem (roll-BlockItem (bare_block_item y))
  block_item-inside (BlockItem-F.Decl d) = λ w. along ItemInside w (walked-block_item (BlockItem-F.Decl d))
      (whatever (typed_decl false d w) _ (λ x v. at_once (item-Decl x)))
  block_item-inside (BlockItem-F.Stmt s) = λ w. along ItemInside w (walked-block_item (BlockItem-F.Stmt s.0))
      (after _ _ (s.1 w) (λ x v is. at_once (item-Stmt x ∙ is)))

  items-inside : (hs : List HeldBlockItem) (w : World)
      → Yields (block_items (map (walked_statements returns).block_item (map (λ (h : HeldBlockItem). h.0) hs)) false w) (λ xs. list_any (λ b. b) (map item_jumps_out xs) ≡ false)
  items-inside [] w = at_once refl
  items-inside (h ∷ hs) w =
      after _ _ (h.1 w) (λ x v first.
      after _ _ (items-inside hs v) (λ xs u rest.
      at_once (neither (item_jumps_out x) (list_any (λ b. b) (map item_jumps_out xs)) first rest)))

  block-inside : (y : Held Block-F) → InsideBlock (roll-Block (bare_block y))
  block-inside y = λ w. along (λ (x : TypedBlock). jumps_out x ≡ false) w (walked-block (bare_block y))
      (after _ _ (items-inside y.items w) (λ xs v is. at_once (block-made xs ∙ is)))

  -- ---- each tree

  block_item-step : (x : StatementNode PlainStatements BlockItem-F) (y : Held BlockItem-F) → bare_block_item y ≡ x → InsideBlockItem (roll-BlockItem x)
  block_item-step x y is = subst (λ z. InsideBlockItem (roll-BlockItem z)) is (block_item-inside y)

  stmt-step : (x : StatementNode PlainStatements Stmt-F) (y : Held Stmt-F) → bare_stmt y ≡ x → InsideStmt (roll-Stmt x)
  stmt-step x y is = subst (λ z. InsideStmt (roll-Stmt z)) is (stmt-inside y)

  block-step : (x : StatementNode PlainStatements Block-F) (y : Held Block-F) → bare_block y ≡ x → InsideBlock (roll-Block x)
  block-step x y is = subst (λ z. InsideBlock (roll-Block z)) is (block-inside y)

  pub jumps-inside : (t : Block) → InsideBlock t
  jumps-inside = ind-Block InsideBlockItem InsideStmt InsideBlock (λ _. Unit {0}) block_item-step stmt-step block-step (λ x y is. tt)
