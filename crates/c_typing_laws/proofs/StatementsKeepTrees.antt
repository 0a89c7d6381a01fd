-- The walk of a statement or block keeps it: an induction over the four types of their trees.
use Rattle.std.proofs.Common.{◌≡◌, ◌∙◌, Bool, true, false, List, map, Option, Some, None, refl, ap, sym, subst}
use Rattle.std.specs.Option.{option_map}
use Rattle.c_types.specs.declared.ty.Ty.{Ty}
use Rattle.c_tree.specs.declared.statement.BlockItem.{BlockItem, roll-BlockItem, map-BlockItem, fold-roll-BlockItem}
use Rattle.c_tree.specs.declared.statement.Stmt.{Stmt, roll-Stmt, map-Stmt, fold-roll-Stmt}
use Rattle.c_tree.specs.declared.statement.Block.{Block, roll-Block, map-Block, fold-roll-Block, ind-Block}
use Rattle.c_tree.specs.declared.statement.ForLoop.{ForLoop, roll-ForLoop, map-ForLoop, fold-roll-ForLoop}
use Rattle.c_tree.specs.declared.statement.BlockItem.TheOpen.{Block-F, BlockItem-F, ForLoop-F, Stmt-F}
use Rattle.c_tree.specs.declared.statement.Stmt.TheVariants as stmt
use Rattle.c_tree.specs.declared.statement.BlockItem.TheVariants as block_item
use Rattle.c_tree.specs.declared.statement.ForInit.{ForInit}
use Rattle.c_tree.specs.declared.statement.ForInit.TheVariants as for_init
use Rattle.c_tree.specs.declared.statement.FullExpr.{FullExpr}
use Rattle.c_tree.specs.FoldStatements.{PlainStatements, StatementNode, fold_statements}
use Rattle.c_typed.specs.declared.statement.TypedBlockItem.{TypedBlockItem}
use Rattle.c_typed.specs.Erased.{erased_block, erased_for_init, erased_full}
use Rattle.c_scope.specs.declared.world.World.{World}
use Rattle.c_scope.specs.Walk.{Walk, each}
use Rattle.c_rules.specs.declared.place.Place.TheVariants.{Value}
use Rattle.c_typing_laws.specs.inner.WalkedTrees.{WalksKeepTrees}
use Rattle.c_expr_typing.specs.Trees.{typed_expr}
use Rattle.c_typing_laws.specs.inner.Yields.{Yields, after, at_once, each_yields, inside_scope, map_twice, whatever}
use Rattle.c_declaration_typing.specs.Declarations.{typed_decl}
use Rattle.c_typing.specs.Statements.{OfBlockItem, block_item_step, block_items, block_step, branches, condition, for_head, for_step, full, optional, optional_condition, stmt_step, typed_for_init, walked_statements}
use Rattle.c_typing_laws.specs.inner.ErasedStatements as erased
use Rattle.c_typing_laws.specs.inner.ErasedStatements.{block_item_tree, for_loop_tree, stmt_tree}
use Rattle.c_typing_laws.proofs.DeclarationsKeepTrees.{decl-keeps, maybe_same}
use Rattle.c_typing_laws.proofs.InitialisersKeepTrees.{expr-yields}

module _ (laws : WalksKeepTrees) where
  -- ---- expressions of statements

  full-keeps : (e : FullExpr) (w : World) → Yields (full e w) (λ x. erased_full x ≡ e)
  unfolding full erased_full
  full-keeps e w = after (typed_expr e.expr Value w) _ (expr-yields laws e.expr w) (λ x v is. at_once (λ i. record { expr = is i }))

  condition-keeps : (e : FullExpr) (w : World) → Yields (condition e w) (λ x. erased_full x ≡ e)
  unfolding condition
  condition-keeps e w = after (full e w) _ (full-keeps e w) (λ x v is. whatever _ _ (λ _ u. at_once is))

  optional-keeps : (o : Option FullExpr) (w : World) → Yields (optional o w) (λ x. option_map erased_full x ≡ o)
  optional-keeps o w = maybe_same erased_full full full-keeps o w

  optional_condition-keeps : (o : Option FullExpr) (w : World) → Yields (optional_condition o w) (λ x. option_map erased_full x ≡ o)
  optional_condition-keeps o w = maybe_same erased_full condition condition-keeps o w

  for_init-keeps : (i : ForInit) (w : World) → Yields (typed_for_init i w) (λ x. erased_for_init x ≡ i)
  unfolding typed_for_init erased_for_init
  for_init-keeps (for_init.Decl d) w = after (typed_decl false d w) _ (decl-keeps laws false d w) (λ x v is. at_once (ap for_init.Decl is))
  for_init-keeps (for_init.Expr o) w = after (optional o w) _ (optional-keeps o w) (λ x v is. at_once (ap for_init.Expr is))

  -- ---- statements, in a function that returns this

  module _ (returns : Ty) where
    abbrev KeepsBlockItem : BlockItem → Type 0
    KeepsBlockItem t = (in_loop : Bool) (w : World) → Yields ((walked_statements returns).block_item t in_loop w) (λ x. block_item_tree x ≡ t)

    abbrev KeepsStmt : Stmt → Type 0
    KeepsStmt t = (in_loop : Bool) (w : World) → Yields ((walked_statements returns).stmt t in_loop w) (λ x. stmt_tree x ≡ t)

    abbrev KeepsBlock : Block → Type 0
    KeepsBlock t = (in_loop : Bool) (w : World) → Yields ((walked_statements returns).block t in_loop w) (λ x. erased_block x ≡ t)

    abbrev KeepsForLoop : ForLoop → Type 0
    KeepsForLoop t = (in_loop : Bool) (w : World) → Yields ((walked_statements returns).for_loop t in_loop w) (λ x. for_loop_tree x ≡ t)

    abbrev KeptBlockItem : Type 0
    KeptBlockItem = (t : BlockItem) × KeepsBlockItem t

    abbrev KeptStmt : Type 0
    KeptStmt = (t : Stmt) × KeepsStmt t

    abbrev KeptBlock : Type 0
    KeptBlock = (t : Block) × KeepsBlock t

    abbrev KeptForLoop : Type 0
    KeptForLoop = (t : ForLoop) × KeepsForLoop t

    abbrev Kept : ((A B C D : Type 0) → Type 0) → Type 0
    Kept F = F KeptBlockItem KeptStmt KeptBlock KeptForLoop

    abbrev bare_block_item : Kept BlockItem-F → StatementNode PlainStatements BlockItem-F
    bare_block_item = map-BlockItem KeptBlockItem KeptStmt KeptBlock KeptForLoop BlockItem Stmt Block ForLoop (λ e. e.0) (λ e. e.0) (λ e. e.0) (λ e. e.0)

    abbrev bare_stmt : Kept Stmt-F → StatementNode PlainStatements Stmt-F
    bare_stmt = map-Stmt KeptBlockItem KeptStmt KeptBlock KeptForLoop BlockItem Stmt Block ForLoop (λ e. e.0) (λ e. e.0) (λ e. e.0) (λ e. e.0)

    abbrev bare_block : Kept Block-F → StatementNode PlainStatements Block-F
    bare_block = map-Block KeptBlockItem KeptStmt KeptBlock KeptForLoop BlockItem Stmt Block ForLoop (λ e. e.0) (λ e. e.0) (λ e. e.0) (λ e. e.0)

    abbrev bare_for_loop : Kept ForLoop-F → StatementNode PlainStatements ForLoop-F
    bare_for_loop = map-ForLoop KeptBlockItem KeptStmt KeptBlock KeptForLoop BlockItem Stmt Block ForLoop (λ e. e.0) (λ e. e.0) (λ e. e.0) (λ e. e.0)

    walked-block_item : (node : StatementNode PlainStatements BlockItem-F) → (walked_statements returns).block_item (roll-BlockItem node)
        ≡ block_item_step (map-BlockItem _ _ _ _ _ _ _ _ (walked_statements returns).block_item (walked_statements returns).stmt (walked_statements returns).block (walked_statements returns).for_loop node)
    unfolding walked_statements fold_statements
    walked-block_item node = fold-roll-BlockItem _ _ _ _ block_item_step (stmt_step returns) block_step for_step node

    walked-stmt : (node : StatementNode PlainStatements Stmt-F) → (walked_statements returns).stmt (roll-Stmt node)
        ≡ stmt_step returns (map-Stmt _ _ _ _ _ _ _ _ (walked_statements returns).block_item (walked_statements returns).stmt (walked_statements returns).block (walked_statements returns).for_loop node)
    unfolding walked_statements fold_statements
    walked-stmt node = fold-roll-Stmt _ _ _ _ block_item_step (stmt_step returns) block_step for_step node

    walked-block : (node : StatementNode PlainStatements Block-F) → (walked_statements returns).block (roll-Block node)
        ≡ block_step (map-Block _ _ _ _ _ _ _ _ (walked_statements returns).block_item (walked_statements returns).stmt (walked_statements returns).block (walked_statements returns).for_loop node)
    unfolding walked_statements fold_statements
    walked-block node = fold-roll-Block _ _ _ _ block_item_step (stmt_step returns) block_step for_step node

    walked-for_loop : (node : StatementNode PlainStatements ForLoop-F) → (walked_statements returns).for_loop (roll-ForLoop node)
        ≡ for_step (map-ForLoop _ _ _ _ _ _ _ _ (walked_statements returns).block_item (walked_statements returns).stmt (walked_statements returns).block (walked_statements returns).for_loop node)
    unfolding walked_statements fold_statements
    walked-for_loop node = fold-roll-ForLoop _ _ _ _ block_item_step (stmt_step returns) block_step for_step node

    along : {A T : Type 0} (e : A → T) {p q : Bool → Walk A} {t u : T} (in_loop : Bool) (w : World) → p ≡ q → t ≡ u
        → Yields (q in_loop w) (λ x. e x ≡ u) → Yields (p in_loop w) (λ x. e x ≡ t)
    along {A} {T} e {p} {q} {t} {u} in_loop w walks trees holds =
        subst (λ (f : Bool → Walk A). Yields (f in_loop w) (λ x. e x ≡ t)) (sym walks)
        (subst (λ s. Yields (q in_loop w) (λ x. e x ≡ s)) (sym trees) holds)

    branches-keep : (s o : KeptStmt) (in_loop : Bool) (w : World)
        → Yields (branches ((walked_statements returns).stmt s.0) ((walked_statements returns).stmt o.0) in_loop w) (λ r. (stmt_tree r.0 ≡ s.0) × (stmt_tree r.1 ≡ o.0))
    branches-keep s o in_loop w =
        after ((walked_statements returns).stmt s.0 in_loop w) _ (s.1 in_loop w) (λ y v is.
        after ((walked_statements returns).stmt o.0 in_loop v) _ (o.1 in_loop v) (λ z u also.
        at_once (is, also)))

    stmt-kept : (y : Kept Stmt-F) → KeepsStmt (roll-Stmt (bare_stmt y))
    stmt-kept (Stmt-F.Block b) = λ in_loop w.
        along _ in_loop w (walked-stmt (Stmt-F.Block b.0)) (stmt.rolls-Block b.0)
        (after _ _ (inside_scope ((walked_statements returns).block b.0 in_loop) (b.1 in_loop) w) (λ x v is. at_once (erased.stmt-Block x ∙ ap stmt.Block is)))
    stmt-kept (Stmt-F.If c s None) = λ in_loop w.
        along _ in_loop w (walked-stmt (Stmt-F.If c s.0 None)) (stmt.rolls-If c s.0 None)
        (after (condition c w) _ (condition-keeps c w) (λ x v is.
        after _ _ (s.1 in_loop v) (λ y u also.
        at_once (erased.stmt-if_alone x y ∙ (λ i. stmt.If (is i) (also i) None)))))
    stmt-kept (Stmt-F.If c s (Some o)) = λ in_loop w.
        along _ in_loop w (walked-stmt (Stmt-F.If c s.0 (Some o.0))) (stmt.rolls-If c s.0 (Some o.0))
        (after (condition c w) _ (condition-keeps c w) (λ x v is.
        after _ _ (branches-keep s o in_loop v) (λ b u also.
        at_once (erased.stmt-if_else x b.0 b.1 ∙ (λ i. stmt.If (is i) (also.0 i) (Some (also.1 i)))))))
    stmt-kept (Stmt-F.While c s) = λ in_loop w.
        along _ in_loop w (walked-stmt (Stmt-F.While c s.0)) (stmt.rolls-While c s.0)
        (after (condition c w) _ (condition-keeps c w) (λ x v is.
        after _ _ (s.1 true v) (λ y u also.
        at_once (erased.stmt-While x y ∙ (λ i. stmt.While (is i) (also i))))))
    stmt-kept (Stmt-F.Do s c) = λ in_loop w.
        along _ in_loop w (walked-stmt (Stmt-F.Do s.0 c)) (stmt.rolls-Do s.0 c)
        (after _ _ (s.1 true w) (λ y v also.
        after (condition c v) _ (condition-keeps c v) (λ x u is.
        at_once (erased.stmt-Do y x ∙ (λ i. stmt.Do (also i) (is i))))))
    stmt-kept (Stmt-F.For f) = λ in_loop w.
        along _ in_loop w (walked-stmt (Stmt-F.For f.0)) (stmt.rolls-For f.0)
        (after _ _ (inside_scope ((walked_statements returns).for_loop f.0 in_loop) (f.1 in_loop) w) (λ x v is. at_once (erased.stmt-For x ∙ ap stmt.For is)))
    stmt-kept Stmt-F.Break = λ in_loop w.
        along _ in_loop w (walked-stmt Stmt-F.Break) stmt.rolls-Break (whatever _ _ (λ _ v. at_once erased.stmt-Break))
    stmt-kept Stmt-F.Continue = λ in_loop w.
        along _ in_loop w (walked-stmt Stmt-F.Continue) stmt.rolls-Continue (whatever _ _ (λ _ v. at_once erased.stmt-Continue))
    stmt-kept (Stmt-F.Return o) = λ in_loop w.
        along _ in_loop w (walked-stmt (Stmt-F.Return o)) (stmt.rolls-Return o)
        (after (optional o w) _ (optional-keeps o w) (λ x v is.
        whatever _ _ (λ _ u. at_once (erased.stmt-Return x ∙ ap stmt.Return is))))
    stmt-kept (Stmt-F.Expr o) = λ in_loop w.
        along _ in_loop w (walked-stmt (Stmt-F.Expr o)) (stmt.rolls-Expr o)
        (after (optional o w) _ (optional-keeps o w) (λ x v is. at_once (erased.stmt-Expr x ∙ ap stmt.Expr is)))

    block_item-kept : (y : Kept BlockItem-F) → KeepsBlockItem (roll-BlockItem (bare_block_item y))
    block_item-kept (BlockItem-F.Decl d) = λ in_loop w.
        along _ in_loop w (walked-block_item (BlockItem-F.Decl d)) (block_item.rolls-Decl d)
        (after (typed_decl false d w) _ (decl-keeps laws false d w) (λ x v is. at_once (erased.block_item-Decl x ∙ ap block_item.Decl is)))
    block_item-kept (BlockItem-F.Stmt s) = λ in_loop w.
        along _ in_loop w (walked-block_item (BlockItem-F.Stmt s.0)) (block_item.rolls-Stmt s.0)
        (after _ _ (s.1 in_loop w) (λ x v is. at_once (erased.block_item-Stmt x ∙ ap block_item.Stmt is)))

    -- ---- blocks and `for` loops

    fused : (hs : List KeptBlockItem) (in_loop : Bool)
        → map (λ (p : OfBlockItem). p in_loop) (map (walked_statements returns).block_item (map (λ (h : KeptBlockItem). h.0) hs))
        ≡ map (λ (h : KeptBlockItem). (walked_statements returns).block_item h.0 in_loop) hs
    fused hs in_loop = ap (map (λ (p : OfBlockItem). p in_loop)) (map_twice (walked_statements returns).block_item (λ (h : KeptBlockItem). h.0) hs)
        ∙ map_twice (λ (p : OfBlockItem). p in_loop) (λ (h : KeptBlockItem). (walked_statements returns).block_item h.0) hs

    items-keep : (hs : List KeptBlockItem) (in_loop : Bool) (w : World)
        → Yields (block_items (map (walked_statements returns).block_item (map (λ (h : KeptBlockItem). h.0) hs)) in_loop w) (λ xs. map block_item_tree xs ≡ map (λ (h : KeptBlockItem). h.0) hs)
    items-keep hs in_loop w =
        subst (λ (ps : List (Walk TypedBlockItem)). Yields (each ps w) (λ xs. map block_item_tree xs ≡ map (λ (h : KeptBlockItem). h.0) hs)) (sym (fused hs in_loop))
        (each_yields block_item_tree (λ (h : KeptBlockItem). h.0) (λ h. (walked_statements returns).block_item h.0 in_loop) (λ h v. h.1 in_loop v) hs w)

    block-kept : (y : Kept Block-F) → KeepsBlock (roll-Block (bare_block y))
    block-kept y = λ in_loop w.
        along _ in_loop w (walked-block (bare_block y)) refl
        (after _ _ (items-keep y.items in_loop w) (λ xs v is.
        at_once (erased.block-made xs ∙ (λ i. roll-Block (record { items = is i })))))

    head-keeps : (i : ForInit) (c s : Option FullExpr) (w : World)
        → Yields (for_head i c s w) (λ h. (erased_for_init h.0 ≡ i) × (option_map erased_full h.1 ≡ c) × (option_map erased_full h.2 ≡ s))
    head-keeps i c s w =
        after (typed_for_init i w) _ (for_init-keeps i w) (λ x v first.
        after (optional_condition c v) _ (optional_condition-keeps c v) (λ y u second.
        after (optional s u) _ (optional-keeps s u) (λ z q third.
        at_once (first, second, third))))

    for_loop-kept : (y : Kept ForLoop-F) → KeepsForLoop (roll-ForLoop (bare_for_loop y))
    for_loop-kept y = λ in_loop w.
        along _ in_loop w (walked-for_loop (bare_for_loop y)) refl
        (after (for_head y.init y.condition y.step w) _ (head-keeps y.init y.condition y.step w) (λ h v is.
        after _ _ (y.body.1 true v) (λ b u also.
        at_once (erased.for_loop-made h.0 h.1 h.2 b ∙ (λ i. roll-ForLoop (record { init = is.0 i; condition = is.1 i; step = is.2 i; body = also i }))))))

    -- ---- each tree

    block_item-step : (x : StatementNode PlainStatements BlockItem-F) (y : Kept BlockItem-F) → bare_block_item y ≡ x → KeepsBlockItem (roll-BlockItem x)
    block_item-step x y is = subst (λ z. KeepsBlockItem (roll-BlockItem z)) is (block_item-kept y)

    stmt-step : (x : StatementNode PlainStatements Stmt-F) (y : Kept Stmt-F) → bare_stmt y ≡ x → KeepsStmt (roll-Stmt x)
    stmt-step x y is = subst (λ z. KeepsStmt (roll-Stmt z)) is (stmt-kept y)

    block-step : (x : StatementNode PlainStatements Block-F) (y : Kept Block-F) → bare_block y ≡ x → KeepsBlock (roll-Block x)
    block-step x y is = subst (λ z. KeepsBlock (roll-Block z)) is (block-kept y)

    for_loop-step : (x : StatementNode PlainStatements ForLoop-F) (y : Kept ForLoop-F) → bare_for_loop y ≡ x → KeepsForLoop (roll-ForLoop x)
    for_loop-step x y is = subst (λ z. KeepsForLoop (roll-ForLoop z)) is (for_loop-kept y)

    pub block-keeps : (t : Block) → KeepsBlock t
    block-keeps = ind-Block KeepsBlockItem KeepsStmt KeepsBlock KeepsForLoop block_item-step stmt-step block-step for_loop-step
