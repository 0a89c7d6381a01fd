-- The walk of a block finds types that pass, where no braces in it are empty or nothing is asked.
use Rattle.std.proofs.Common.{◌≡◌, ◌||◌, Bool, true, false, not, List, [], ◌∷◌, map, Option, Some, None, sym, subst}
use Rattle.std.specs.List.{AllByRecursion, list_all}
use Rattle.c_types.specs.declared.ty.Ty.{Ty}
use Rattle.c_types.specs.Kinds.{is_void}
use Rattle.c_tree.specs.declared.statement.Block.{Block, fold-roll-Block, ind-Block, map-Block, roll-Block}
use Rattle.c_tree.specs.declared.statement.BlockItem.{BlockItem, fold-BlockItem, fold-roll-BlockItem, map-BlockItem, roll-BlockItem}
use Rattle.c_tree.specs.declared.statement.BlockItem.TheOpen.{Block-F, BlockItem-F, ForLoop-F, Stmt-F}
use Rattle.c_tree.specs.declared.statement.ForInit.{ForInit}
use Rattle.c_tree.specs.declared.statement.ForInit.TheVariants as for_init
use Rattle.c_tree.specs.declared.statement.ForLoop.{ForLoop, fold-ForLoop, fold-roll-ForLoop, map-ForLoop, roll-ForLoop}
use Rattle.c_tree.specs.declared.statement.FullExpr.{FullExpr}
use Rattle.c_tree.specs.declared.statement.Stmt.{Stmt, fold-Stmt, fold-roll-Stmt, map-Stmt, roll-Stmt}
use Rattle.c_tree.specs.FoldStatements.{PlainStatements, StatementNode, fold_statements}
use Rattle.c_typed.specs.declared.statement.TypedFullExpr.{TypedFullExpr}
use Rattle.c_typed.specs.declared.statement.TypedStmt.{TypedStmt}
use Rattle.c_typed.specs.declared.statement.TypedStmt.TheVariants as stmt
use Rattle.c_scope.specs.declared.rule.Rule.TheVariants as broken
use Rattle.c_scope.specs.declared.world.World.{World}
use Rattle.c_scope.specs.Walk.{Walk}
use Rattle.c_rules.specs.declared.place.Place.TheVariants.{Value}
use Rattle.c_operators.specs.Operators.{converts, is_scalar_value}
use Rattle.c_typing.specs.Statements.{block_item_step, block_items, block_step, branches, condition, for_head, for_step, full, jump, optional, optional_condition, return_walked, returned_rules, stmt_step, typed_for_init, walked_statements}
use Rattle.c_typing_types.specs.Filled as filled
use Rattle.c_typing_types.specs.Filled.{block_fills, for_init_fills}
use Rattle.c_typed_rows.specs.Types.{BlockTypes, ForInitTypes, FullTypes, OptionalTypes}
use Rattle.c_typing_types.proofs.Declarations.{decl-goes, free-both}
use Rattle.c_typing_types.proofs.Good.{Good}
use Rattle.c_typing_types.proofs.StatementParts as parts
use Rattle.c_typing_types.proofs.StatementParts.{BlockItemTypes, ForTypes, StmtTypes}
use Rattle.c_typing_types.proofs.Steps.{Goes, after, ends, rule-goes, ruled, under, within-goes}
use Rattle.c_typing_types.proofs.Walks.{expr-finds}

-- ---- what stands in braces in statements

pub item_fills : BlockItem → Bool
item_fills = fold-BlockItem Bool Bool Bool Bool filled.block_item_step filled.stmt_step filled.block_step filled.for_step

pub stmt_fills : Stmt → Bool
stmt_fills = fold-Stmt Bool Bool Bool Bool filled.block_item_step filled.stmt_step filled.block_step filled.for_step

pub for_fills : ForLoop → Bool
for_fills = fold-ForLoop Bool Bool Bool Bool filled.block_item_step filled.stmt_step filled.block_step filled.for_step

pub item-filled : (node : StatementNode PlainStatements BlockItem-F) → item_fills (roll-BlockItem node) ≡ filled.block_item_step (map-BlockItem _ _ _ _ _ _ _ _ item_fills stmt_fills block_fills for_fills node)
unfolding item_fills stmt_fills block_fills for_fills
item-filled node = fold-roll-BlockItem Bool Bool Bool Bool filled.block_item_step filled.stmt_step filled.block_step filled.for_step node

pub stmt-filled : (node : StatementNode PlainStatements Stmt-F) → stmt_fills (roll-Stmt node) ≡ filled.stmt_step (map-Stmt _ _ _ _ _ _ _ _ item_fills stmt_fills block_fills for_fills node)
unfolding item_fills stmt_fills block_fills for_fills
stmt-filled node = fold-roll-Stmt Bool Bool Bool Bool filled.block_item_step filled.stmt_step filled.block_step filled.for_step node

pub block-filled : (node : StatementNode PlainStatements Block-F) → block_fills (roll-Block node) ≡ filled.block_step (map-Block _ _ _ _ _ _ _ _ item_fills stmt_fills block_fills for_fills node)
unfolding item_fills stmt_fills block_fills for_fills
block-filled node = fold-roll-Block Bool Bool Bool Bool filled.block_item_step filled.stmt_step filled.block_step filled.for_step node

pub for-filled : (node : StatementNode PlainStatements ForLoop-F) → for_fills (roll-ForLoop node) ≡ filled.for_step (map-ForLoop _ _ _ _ _ _ _ _ item_fills stmt_fills block_fills for_fills node)
unfolding item_fills stmt_fills block_fills for_fills
for-filled node = fold-roll-ForLoop Bool Bool Bool Bool filled.block_item_step filled.stmt_step filled.block_step filled.for_step node

module _ (g : Good) where
  -- it is filled, or nothing is asked
  abbrev pub Fills : Bool → Type 0
  Fills b = (g.free || b) ≡ true

  by_same : (a b : Bool) → a ≡ b → Fills a → Fills b
  by_same a b same fills = subst Fills same fills

  -- ---- expressions of statements

  full-goes : (e : FullExpr) (w : World) → Goes g (Unit {0}) w (full e w) (FullTypes g.good)
  unfolding full
  full-goes e w = after g _ _ (expr-finds g e.expr Value w) (λ x v. ends g (λ known fit. known.1.types))

  condition-goes : (e : FullExpr) (w : World) → Goes g (Unit {0}) w (condition e w) (FullTypes g.good)
  unfolding condition
  condition-goes e w = after g _ _ (full-goes e w) (λ x v. ruled g broken.NotScalar (is_scalar_value x.expr) _ (λ scalar. ends g (λ known fit. known.1)))

  optional-goes : (o : Option FullExpr) (w : World) → Goes g (Unit {0}) w (optional o w) (OptionalTypes g.good)
  optional-goes None w = ends g (λ known fit. tt)
  optional-goes (Some e) w = after g _ _ (full-goes e w) (λ x v. ends g (λ known fit. known.1))

  optional_condition-goes : (o : Option FullExpr) (w : World) → Goes g (Unit {0}) w (optional_condition o w) (OptionalTypes g.good)
  optional_condition-goes None w = ends g (λ known fit. tt)
  optional_condition-goes (Some e) w = after g _ _ (condition-goes e w) (λ x v. ends g (λ known fit. known.1))

  for_init-goes : (i : ForInit) (w : World) → Fills (for_init_fills i) → Goes g (Unit {0}) w (typed_for_init i w) (ForInitTypes g.good)
  unfolding typed_for_init
  for_init-goes (for_init.Decl d) w fills = after g _ _ (decl-goes g false d w fills) (λ x v. ends g (λ known fit. known.1))
  for_init-goes (for_init.Expr o) w fills = after g _ _ (optional-goes o w) (λ x v. ends g (λ known fit. known.1))

  -- ---- statements

  module _ (returns : Ty) where
    result-goes : (o : Option TypedFullExpr) (w : World) → Goes g (Unit {0}) w (returned_rules returns o w) (λ u. Unit {0})
    result-goes None w = rule-goes g broken.Return (is_void returns) (λ holds known. tt)
    result-goes (Some x) w = ruled g broken.Return (not (is_void returns)) _ (λ some. rule-goes g broken.Unconverted (converts x.expr returns) (λ holds known. tt))

    abbrev FindsBlockItem : BlockItem → Type 0
    FindsBlockItem t = Fills (item_fills t) → (in_loop : Bool) (w : World) → Goes g (Unit {0}) w ((walked_statements returns).block_item t in_loop w) (BlockItemTypes g.good)

    abbrev FindsStmt : Stmt → Type 0
    FindsStmt t = Fills (stmt_fills t) → (in_loop : Bool) (w : World) → Goes g (Unit {0}) w ((walked_statements returns).stmt t in_loop w) (StmtTypes g.good)

    abbrev FindsBlock : Block → Type 0
    FindsBlock t = Fills (block_fills t) → (in_loop : Bool) (w : World) → Goes g (Unit {0}) w ((walked_statements returns).block t in_loop w) (BlockTypes g.good)

    abbrev FindsForLoop : ForLoop → Type 0
    FindsForLoop t = Fills (for_fills t) → (in_loop : Bool) (w : World) → Goes g (Unit {0}) w ((walked_statements returns).for_loop t in_loop w) (ForTypes g.good)

    abbrev HeldBlockItem : Type 0
    HeldBlockItem = (t : BlockItem) × FindsBlockItem t

    abbrev HeldStmt : Type 0
    HeldStmt = (t : Stmt) × FindsStmt t

    abbrev HeldBlock : Type 0
    HeldBlock = (t : Block) × FindsBlock t

    abbrev HeldForLoop : Type 0
    HeldForLoop = (t : ForLoop) × FindsForLoop t

    abbrev Held : ((A B C D : Type 0) → Type 0) → Type 0
    Held F = F HeldBlockItem HeldStmt HeldBlock HeldForLoop

    abbrev plain_block_item : Held BlockItem-F → StatementNode PlainStatements BlockItem-F
    plain_block_item = map-BlockItem HeldBlockItem HeldStmt HeldBlock HeldForLoop BlockItem Stmt Block ForLoop (λ e. e.0) (λ e. e.0) (λ e. e.0) (λ e. e.0)

    abbrev plain_stmt : Held Stmt-F → StatementNode PlainStatements Stmt-F
    plain_stmt = map-Stmt HeldBlockItem HeldStmt HeldBlock HeldForLoop BlockItem Stmt Block ForLoop (λ e. e.0) (λ e. e.0) (λ e. e.0) (λ e. e.0)

    abbrev plain_block : Held Block-F → StatementNode PlainStatements Block-F
    plain_block = map-Block HeldBlockItem HeldStmt HeldBlock HeldForLoop BlockItem Stmt Block ForLoop (λ e. e.0) (λ e. e.0) (λ e. e.0) (λ e. e.0)

    abbrev plain_for_loop : Held ForLoop-F → StatementNode PlainStatements ForLoop-F
    plain_for_loop = map-ForLoop HeldBlockItem HeldStmt HeldBlock HeldForLoop BlockItem Stmt Block ForLoop (λ e. e.0) (λ e. e.0) (λ e. e.0) (λ e. e.0)

    walked-block_item : (node : StatementNode PlainStatements BlockItem-F) → (walked_statements returns).block_item (roll-BlockItem node)
        ≡ block_item_step (map-BlockItem _ _ _ _ _ _ _ _ (walked_statements returns).block_item (walked_statements returns).stmt (walked_statements returns).block (walked_statements returns).for_loop node)
    unfolding walked_statements fold_statements
    walked-block_item node = fold-roll-BlockItem _ _ _ _ block_item_step (stmt_step returns) block_step for_step node

    walked-stmt : (node : StatementNode PlainStatements Stmt-F) → (walked_statements returns).stmt (roll-Stmt node)
        ≡ stmt_step returns (map-Stmt _ _ _ _ _ _ _ _ (walked_statements returns).block_item (walked_statements returns).stmt (walked_statements returns).block (walked_statements returns).for_loop node)
    unfolding walked_statements fold_statements
    walked-stmt node = fold-roll-Stmt _ _ _ _ block_item_step (stmt_step returns) block_step for_step node

    walked-block : (node : StatementNode PlainStatements Block-F) → (walked_statements returns).block (roll-Block node)
        ≡ block_step (map-Block _ _ _ _ _ _ _ _ (walked_statements returns).block_item (walked_statements returns).stmt (walked_statements returns).block (walked_statements returns).for_loop node)
    unfolding walked_statements fold_statements
    walked-block node = fold-roll-Block _ _ _ _ block_item_step (stmt_step returns) block_step for_step node

    walked-for_loop : (node : StatementNode PlainStatements ForLoop-F) → (walked_statements returns).for_loop (roll-ForLoop node)
        ≡ for_step (map-ForLoop _ _ _ _ _ _ _ _ (walked_statements returns).block_item (walked_statements returns).stmt (walked_statements returns).block (walked_statements returns).for_loop node)
    unfolding walked_statements fold_statements
    walked-for_loop node = fold-roll-ForLoop _ _ _ _ block_item_step (stmt_step returns) block_step for_step node

    along : {A : Type 0} (Q : A → Type 0) {p q : Bool → Walk A} (in_loop : Bool) (w : World) → p ≡ q → Goes g (Unit {0}) w (q in_loop w) Q → Goes g (Unit {0}) w (p in_loop w) Q
    along {A} Q {p} {q} in_loop w walks goes = subst (λ (f : Bool → Walk A). Goes g (Unit {0}) w (f in_loop w) Q) (sym walks) goes

    branches-go : (s o : HeldStmt) (in_loop : Bool) (w : World) → Fills (stmt_fills s.0) → Fills (stmt_fills o.0)
        → Goes g (Unit {0}) w (branches ((walked_statements returns).stmt s.0) ((walked_statements returns).stmt o.0) in_loop w) (λ r. StmtTypes g.good r.0 × StmtTypes g.good r.1)
    branches-go s o in_loop w first second =
        after g _ _ (s.1 first in_loop w) (λ y v.
        after g _ _ (under g _ (λ known. tt) (o.1 second in_loop v)) (λ z u.
        ends g (λ known fit. (known.0.1, known.1))))

    jump-goes : (s : TypedStmt) (in_loop : Bool) (w : World) → StmtTypes g.good s → Goes g (Unit {0}) w (jump s in_loop w) (StmtTypes g.good)
    jump-goes s in_loop w h = ruled g broken.OutsideLoop in_loop _ (λ inside. ends g (λ known fit. h))

    return-goes : (o : Option FullExpr) (w : World) → Goes g (Unit {0}) w (return_walked returns o w) (StmtTypes g.good)
    return-goes o w =
        after g _ _ (optional-goes o w) (λ x v.
        after g _ _ (under g _ (λ known. tt) (result-goes x v)) (λ u s.
        ends g (λ known fit. parts.stmt-Return g.good x known.0.1)))

    stmt-made : (y : Held Stmt-F) → FindsStmt (roll-Stmt (plain_stmt y))
    stmt-made (Stmt-F.Block b) = λ fills in_loop w. along _ in_loop w (walked-stmt (Stmt-F.Block b.0))
        (after g _ _ (within-goes g ((walked_statements returns).block b.0 in_loop) w (b.1 (by_same _ _ (stmt-filled (Stmt-F.Block b.0)) fills) in_loop)) (λ x v. ends g (λ known fit. parts.stmt-Block g.good x known.1 tt)))
    stmt-made (Stmt-F.If c s None) = λ fills in_loop w. along _ in_loop w (walked-stmt (Stmt-F.If c s.0 None))
        (after g _ _ (condition-goes c w) (λ x v.
        after g _ _ (under g _ (λ known. tt) (s.1 (by_same _ _ (stmt-filled (Stmt-F.If c s.0 None)) fills) in_loop v)) (λ y u.
        ends g (λ known fit. parts.stmt-if_alone g.good x y known.1 known.0.1))))
    stmt-made (Stmt-F.If c s (Some o)) = λ fills in_loop w.
        let h = free-both g.free (stmt_fills s.0) (stmt_fills o.0) (by_same _ _ (stmt-filled (Stmt-F.If c s.0 (Some o.0))) fills) in
        along _ in_loop w (walked-stmt (Stmt-F.If c s.0 (Some o.0)))
        (after g _ _ (condition-goes c w) (λ x v.
        after g _ _ (under g _ (λ known. tt) (branches-go s o in_loop v h.0 h.1)) (λ b u.
        ends g (λ known fit. parts.stmt-if_else g.good x b.0 b.1 known.1.0 known.1.1 known.0.1))))
    stmt-made (Stmt-F.While c s) = λ fills in_loop w. along _ in_loop w (walked-stmt (Stmt-F.While c s.0))
        (after g _ _ (condition-goes c w) (λ x v.
        after g _ _ (under g _ (λ known. tt) (s.1 (by_same _ _ (stmt-filled (Stmt-F.While c s.0)) fills) true v)) (λ y u.
        ends g (λ known fit. parts.stmt-While g.good x y known.1 known.0.1))))
    stmt-made (Stmt-F.Do s c) = λ fills in_loop w. along _ in_loop w (walked-stmt (Stmt-F.Do s.0 c))
        (after g _ _ (s.1 (by_same _ _ (stmt-filled (Stmt-F.Do s.0 c)) fills) true w) (λ y v.
        after g _ _ (under g _ (λ known. tt) (condition-goes c v)) (λ x u.
        ends g (λ known fit. parts.stmt-Do g.good y x known.0.1 known.1))))
    stmt-made (Stmt-F.For f) = λ fills in_loop w. along _ in_loop w (walked-stmt (Stmt-F.For f.0))
        (after g _ _ (within-goes g ((walked_statements returns).for_loop f.0 in_loop) w (f.1 (by_same _ _ (stmt-filled (Stmt-F.For f.0)) fills) in_loop)) (λ x v. ends g (λ known fit. parts.stmt-For g.good x known.1 tt)))
    stmt-made Stmt-F.Break = λ fills in_loop w. along _ in_loop w (walked-stmt Stmt-F.Break) (jump-goes stmt.Break in_loop w (parts.stmt-Break g.good tt))
    stmt-made Stmt-F.Continue = λ fills in_loop w. along _ in_loop w (walked-stmt Stmt-F.Continue) (jump-goes stmt.Continue in_loop w (parts.stmt-Continue g.good tt))
    stmt-made (Stmt-F.Return o) = λ fills in_loop w. along _ in_loop w (walked-stmt (Stmt-F.Return o)) (return-goes o w)
    stmt-made (Stmt-F.Expr o) = λ fills in_loop w. along _ in_loop w (walked-stmt (Stmt-F.Expr o))
        (after g _ _ (optional-goes o w) (λ x v. ends g (λ known fit. parts.stmt-Expr g.good x known.1)))

    block_item-made : (y : Held BlockItem-F) → FindsBlockItem (roll-BlockItem (plain_block_item y))
    block_item-made (BlockItem-F.Decl d) = λ fills in_loop w. along _ in_loop w (walked-block_item (BlockItem-F.Decl d))
        (after g _ _ (decl-goes g false d w (by_same _ _ (item-filled (BlockItem-F.Decl d)) fills)) (λ x v. ends g (λ known fit. parts.item-Decl g.good x known.1)))
    block_item-made (BlockItem-F.Stmt s) = λ fills in_loop w. along _ in_loop w (walked-block_item (BlockItem-F.Stmt s.0))
        (after g _ _ (s.1 (by_same _ _ (item-filled (BlockItem-F.Stmt s.0)) fills) in_loop w) (λ x v. ends g (λ known fit. parts.item-Stmt g.good x known.1 tt)))

    -- ---- blocks and `for` loops

    items-go : (hs : List HeldBlockItem) (in_loop : Bool) (w : World) → Fills (list_all (λ fills. fills) (map item_fills (map (λ (h : HeldBlockItem). h.0) hs)))
        → Goes g (Unit {0}) w (block_items (map (walked_statements returns).block_item (map (λ (h : HeldBlockItem). h.0) hs)) in_loop w) (AllByRecursion (BlockItemTypes g.good))
    items-go [] in_loop w fills = ends g (λ known fit. tt)
    items-go (h ∷ hs) in_loop w fills =
        let both = free-both g.free (item_fills h.0) (list_all (λ fills. fills) (map item_fills (map (λ (h : HeldBlockItem). h.0) hs))) fills in
        after g _ _ (h.1 both.0 in_loop w) (λ x v.
        after g _ _ (under g _ (λ known. tt) (items-go hs in_loop v both.1)) (λ xs u.
        ends g (λ known fit. (known.0.1, known.1))))

    block-made : (y : Held Block-F) → FindsBlock (roll-Block (plain_block y))
    block-made y = λ fills in_loop w. along _ in_loop w (walked-block (plain_block y))
        (after g _ _ (items-go y.items in_loop w (by_same _ _ (block-filled (plain_block y)) fills)) (λ xs v. ends g (λ known fit. parts.block-made g.good xs known.1)))

    head-goes : (i : ForInit) (c s : Option FullExpr) (w : World) → Fills (for_init_fills i)
        → Goes g (Unit {0}) w (for_head i c s w) (λ h. ForInitTypes g.good h.0 × OptionalTypes g.good h.1 × OptionalTypes g.good h.2)
    head-goes i c s w fills =
        after g _ _ (for_init-goes i w fills) (λ x v.
        after g _ _ (under g _ (λ known. tt) (optional_condition-goes c v)) (λ y u.
        after g _ _ (under g _ (λ known. tt) (optional-goes s u)) (λ z t.
        ends g (λ known fit. (known.0.0.1, known.0.1, known.1)))))

    for_loop-made : (y : Held ForLoop-F) → FindsForLoop (roll-ForLoop (plain_for_loop y))
    for_loop-made y = λ fills in_loop w.
        let both = free-both g.free (for_init_fills y.init) (stmt_fills y.body.0) (by_same _ _ (for-filled (plain_for_loop y)) fills) in
        along _ in_loop w (walked-for_loop (plain_for_loop y))
        (after g _ _ (head-goes y.init y.condition y.step w both.0) (λ h v.
        after g _ _ (under g _ (λ known. tt) (y.body.1 both.1 true v)) (λ b u.
        ends g (λ known fit. parts.for-made g.good h.0 h.1 h.2 b known.0.1.0 known.0.1.1 known.0.1.2 known.1))))

    -- ---- each tree

    block_item-step : (x : StatementNode PlainStatements BlockItem-F) (y : Held BlockItem-F) → plain_block_item y ≡ x → FindsBlockItem (roll-BlockItem x)
    block_item-step x y is = subst (λ z. FindsBlockItem (roll-BlockItem z)) is (block_item-made y)

    stmt-step : (x : StatementNode PlainStatements Stmt-F) (y : Held Stmt-F) → plain_stmt y ≡ x → FindsStmt (roll-Stmt x)
    stmt-step x y is = subst (λ z. FindsStmt (roll-Stmt z)) is (stmt-made y)

    block-step : (x : StatementNode PlainStatements Block-F) (y : Held Block-F) → plain_block y ≡ x → FindsBlock (roll-Block x)
    block-step x y is = subst (λ z. FindsBlock (roll-Block z)) is (block-made y)

    for_loop-step : (x : StatementNode PlainStatements ForLoop-F) (y : Held ForLoop-F) → plain_for_loop y ≡ x → FindsForLoop (roll-ForLoop x)
    for_loop-step x y is = subst (λ z. FindsForLoop (roll-ForLoop z)) is (for_loop-made y)

    pub block-finds : (t : Block) → FindsBlock t
    block-finds = ind-Block FindsBlockItem FindsStmt FindsBlock FindsForLoop block_item-step stmt-step block-step for_loop-step
