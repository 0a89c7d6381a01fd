-- The walk of a statement finds what meets its rows.
use Rattle.std.proofs.Common.{◌≡◌, ◌∙◌, ℕ, Bool, true, false, not, inl, List, [], ◌∷◌, map, Option, Some, None, slice_get, Ok, Err, refl, ap, sym, subst}
use Rattle.std.specs.List.{AllByRecursion}
use Rattle.c_types.specs.declared.ty.Ty.{Ty}
use Rattle.c_types.specs.Kinds.{is_void}
use Rattle.c_types.specs.Theorems.{TablesGrow, UnitsStay}
use Rattle.c_tree.specs.declared.expression.Expr.{Expr}
use Rattle.c_tree.specs.declared.statement.Block.{Block, roll-Block, map-Block, fold-roll-Block, ind-Block}
use Rattle.c_tree.specs.declared.statement.BlockItem.{BlockItem, roll-BlockItem, map-BlockItem, fold-roll-BlockItem}
use Rattle.c_tree.specs.declared.statement.BlockItem.TheOpen.{BlockItem-F, Stmt-F, Block-F, ForLoop-F}
use Rattle.c_tree.specs.declared.statement.ForInit.{ForInit}
use Rattle.c_tree.specs.declared.statement.ForInit.TheVariants as for_init
use Rattle.c_tree.specs.declared.statement.ForLoop.{ForLoop, roll-ForLoop, map-ForLoop, fold-roll-ForLoop}
use Rattle.c_tree.specs.declared.statement.FullExpr.{FullExpr}
use Rattle.c_tree.specs.declared.statement.Stmt.{Stmt, roll-Stmt, map-Stmt, fold-roll-Stmt}
use Rattle.c_tree.specs.FoldStatements.{PlainStatements, StatementNode, fold_statements}
use Rattle.c_typed.specs.declared.statement.TypedBlock.{TypedBlock, every_made-TypedBlock, roll-TypedBlock}
use Rattle.c_typed.specs.declared.statement.TypedBlockItem.{TypedBlockItem, every_made-TypedBlockItem}
use Rattle.c_typed.specs.declared.statement.TypedBlockItem.TheOpen.{TypedBlockItem-F, TypedStmt-F}
use Rattle.c_typed.specs.declared.statement.TypedBlockItem.TheVariants as block_item
use Rattle.c_typed.specs.declared.statement.TypedDecl.{TypedDecl}
use Rattle.c_typed.specs.declared.statement.TypedForInit.{TypedForInit}
use Rattle.c_typed.specs.declared.statement.TypedForLoop.{TypedForLoop, every_made-TypedForLoop, roll-TypedForLoop}
use Rattle.c_typed.specs.declared.statement.TypedFullExpr.{TypedFullExpr}
use Rattle.c_typed.specs.declared.statement.TypedStmt.{TypedStmt, every_made-TypedStmt}
use Rattle.c_typed.specs.declared.statement.TypedStmt.TheVariants as stmt
use Rattle.c_scope.specs.declared.rule.Rule.{Rule}
use Rattle.c_scope.specs.declared.rule.Rule.TheVariants as broken
use Rattle.c_scope.specs.declared.scopes.Binding.{Binding}
use Rattle.c_scope.specs.declared.world.World.{World}
use Rattle.c_scope.specs.Scopes.{enter, leave, outer, within}
use Rattle.c_scope.specs.Walk.{Outcome, Walk, and_then, rule}
use Rattle.c_rules.specs.declared.place.Place.TheVariants.{Value}
use Rattle.c_operators.specs.Operators.{converts, is_scalar_value}
use Rattle.c_expr_typing.specs.Trees.{typed_expr}
use Rattle.c_typing.specs.Statements.{block_item_step, block_items, block_step, branches, condition, for_head, for_step, full, jump, optional, optional_condition, return_walked, returned_rules, stmt_step, typed_for_init, walked_statements}
use Rattle.c_typed_rows.specs.Contexts.{Context, global_type}
use Rattle.c_typed_rows.specs.Expressions.{IsTypedValue}
use Rattle.c_typed_rows.specs.Statements.{BlockItemLevel, ForLevel, IfFull, IsTypedBlock, IsTypedCondition, IsTypedForInit, IsTypedFull, ReturnRow, StmtLevel}
use Rattle.c_typing_laws.specs.Worlds.{Below, HaveNoParameter, ScopesFit, local_types}
use Rattle.c_typing_laws.specs.inner.Goes.{Goes, Sound, after, ends, never, ruled, weaker}
use Rattle.c_typing_laws.specs.inner.TypedStatements.{IsTypedBlockItem, IsTypedForLoop, IsTypedStmt}
use Rattle.c_typing_laws.proofs.DeclarationsMeetRows.{IsWidening, decl-goes, widely, widening}
use Rattle.c_typing_laws.proofs.WalksMeetRows.{expr-meets}
use Rattle.c_typing_laws.proofs.WorldSteps.{below-scopes}

-- ---- statements whose parts meet their rows

module _ (k : Context) where
  stmt-Block : (b : TypedBlock) → IsTypedBlock k b → StmtLevel k (TypedStmt-F.Block b) → IsTypedStmt k (stmt.Block b)
  unfolding IsTypedBlockItem IsTypedStmt IsTypedBlock IsTypedForLoop
  stmt-Block b hb level = subst (IsTypedStmt k) (stmt.rolls-Block b) (every_made-TypedStmt (BlockItemLevel k) (StmtLevel k) (λ _. Unit {0}) (ForLevel k) (TypedStmt-F.Block b) (TypedStmt-F.Block (b, hb)) refl level)

  stmt-if_alone : (c : TypedFullExpr) (s : TypedStmt) → IsTypedStmt k s → StmtLevel k (TypedStmt-F.If c s None) → IsTypedStmt k (stmt.If c s None)
  unfolding IsTypedBlockItem IsTypedStmt IsTypedBlock IsTypedForLoop
  stmt-if_alone c s hs level = subst (IsTypedStmt k) (stmt.rolls-If c s None) (every_made-TypedStmt (BlockItemLevel k) (StmtLevel k) (λ _. Unit {0}) (ForLevel k) (TypedStmt-F.If c s None) (TypedStmt-F.If c (s, hs) None) refl level)

  stmt-if_else : (c : TypedFullExpr) (s : TypedStmt) (o : TypedStmt) → IsTypedStmt k s → IsTypedStmt k o → StmtLevel k (TypedStmt-F.If c s (Some o)) → IsTypedStmt k (stmt.If c s (Some o))
  unfolding IsTypedBlockItem IsTypedStmt IsTypedBlock IsTypedForLoop
  stmt-if_else c s o hs ho level = subst (IsTypedStmt k) (stmt.rolls-If c s (Some o)) (every_made-TypedStmt (BlockItemLevel k) (StmtLevel k) (λ _. Unit {0}) (ForLevel k) (TypedStmt-F.If c s (Some o)) (TypedStmt-F.If c (s, hs) (Some (o, ho))) refl level)

  stmt-While : (c : TypedFullExpr) (s : TypedStmt) → IsTypedStmt k s → StmtLevel k (TypedStmt-F.While c s) → IsTypedStmt k (stmt.While c s)
  unfolding IsTypedBlockItem IsTypedStmt IsTypedBlock IsTypedForLoop
  stmt-While c s hs level = subst (IsTypedStmt k) (stmt.rolls-While c s) (every_made-TypedStmt (BlockItemLevel k) (StmtLevel k) (λ _. Unit {0}) (ForLevel k) (TypedStmt-F.While c s) (TypedStmt-F.While c (s, hs)) refl level)

  stmt-Do : (s : TypedStmt) (c : TypedFullExpr) → IsTypedStmt k s → StmtLevel k (TypedStmt-F.Do s c) → IsTypedStmt k (stmt.Do s c)
  unfolding IsTypedBlockItem IsTypedStmt IsTypedBlock IsTypedForLoop
  stmt-Do s c hs level = subst (IsTypedStmt k) (stmt.rolls-Do s c) (every_made-TypedStmt (BlockItemLevel k) (StmtLevel k) (λ _. Unit {0}) (ForLevel k) (TypedStmt-F.Do s c) (TypedStmt-F.Do (s, hs) c) refl level)

  stmt-For : (f : TypedForLoop) → IsTypedForLoop k f → StmtLevel k (TypedStmt-F.For f) → IsTypedStmt k (stmt.For f)
  unfolding IsTypedBlockItem IsTypedStmt IsTypedBlock IsTypedForLoop
  stmt-For f hf level = subst (IsTypedStmt k) (stmt.rolls-For f) (every_made-TypedStmt (BlockItemLevel k) (StmtLevel k) (λ _. Unit {0}) (ForLevel k) (TypedStmt-F.For f) (TypedStmt-F.For (f, hf)) refl level)

  stmt-Break : StmtLevel k TypedStmt-F.Break → IsTypedStmt k stmt.Break
  unfolding IsTypedBlockItem IsTypedStmt IsTypedBlock IsTypedForLoop
  stmt-Break level = subst (IsTypedStmt k) stmt.rolls-Break (every_made-TypedStmt (BlockItemLevel k) (StmtLevel k) (λ _. Unit {0}) (ForLevel k) TypedStmt-F.Break TypedStmt-F.Break refl level)

  stmt-Continue : StmtLevel k TypedStmt-F.Continue → IsTypedStmt k stmt.Continue
  unfolding IsTypedBlockItem IsTypedStmt IsTypedBlock IsTypedForLoop
  stmt-Continue level = subst (IsTypedStmt k) stmt.rolls-Continue (every_made-TypedStmt (BlockItemLevel k) (StmtLevel k) (λ _. Unit {0}) (ForLevel k) TypedStmt-F.Continue TypedStmt-F.Continue refl level)

  stmt-Return : (o : Option TypedFullExpr) → StmtLevel k (TypedStmt-F.Return o) → IsTypedStmt k (stmt.Return o)
  unfolding IsTypedBlockItem IsTypedStmt IsTypedBlock IsTypedForLoop
  stmt-Return o level = subst (IsTypedStmt k) (stmt.rolls-Return o) (every_made-TypedStmt (BlockItemLevel k) (StmtLevel k) (λ _. Unit {0}) (ForLevel k) (TypedStmt-F.Return o) (TypedStmt-F.Return o) refl level)

  stmt-Expr : (o : Option TypedFullExpr) → StmtLevel k (TypedStmt-F.Expr o) → IsTypedStmt k (stmt.Expr o)
  unfolding IsTypedBlockItem IsTypedStmt IsTypedBlock IsTypedForLoop
  stmt-Expr o level = subst (IsTypedStmt k) (stmt.rolls-Expr o) (every_made-TypedStmt (BlockItemLevel k) (StmtLevel k) (λ _. Unit {0}) (ForLevel k) (TypedStmt-F.Expr o) (TypedStmt-F.Expr o) refl level)

  item-Decl : (d : TypedDecl) → BlockItemLevel k (TypedBlockItem-F.Decl d) → IsTypedBlockItem k (block_item.Decl d)
  unfolding IsTypedBlockItem IsTypedStmt IsTypedBlock IsTypedForLoop
  item-Decl d level = subst (IsTypedBlockItem k) (block_item.rolls-Decl d) (every_made-TypedBlockItem (BlockItemLevel k) (StmtLevel k) (λ _. Unit {0}) (ForLevel k) (TypedBlockItem-F.Decl d) (TypedBlockItem-F.Decl d) refl level)

  item-Stmt : (s : TypedStmt) → IsTypedStmt k s → BlockItemLevel k (TypedBlockItem-F.Stmt s) → IsTypedBlockItem k (block_item.Stmt s)
  unfolding IsTypedBlockItem IsTypedStmt IsTypedBlock IsTypedForLoop
  item-Stmt s hs level = subst (IsTypedBlockItem k) (block_item.rolls-Stmt s) (every_made-TypedBlockItem (BlockItemLevel k) (StmtLevel k) (λ _. Unit {0}) (ForLevel k) (TypedBlockItem-F.Stmt s) (TypedBlockItem-F.Stmt (s, hs)) refl level)

  held_items : (xs : List TypedBlockItem) → AllByRecursion (IsTypedBlockItem k) xs → List ((x : TypedBlockItem) × IsTypedBlockItem k x)
  held_items [] hs = []
  held_items (x ∷ xs) hs = (x, hs.0) ∷ held_items xs hs.1

  held_items-are : (xs : List TypedBlockItem) (hs : AllByRecursion (IsTypedBlockItem k) xs) → map (λ h. h.0) (held_items xs hs) ≡ xs
  unfolding held_items
  held_items-are [] hs = refl
  held_items-are (x ∷ xs) hs = ap (λ ys. x ∷ ys) (held_items-are xs hs.1)

  block-of : (hs : List ((x : TypedBlockItem) × IsTypedBlockItem k x)) → IsTypedBlock k (roll-TypedBlock (record { items = map (λ h. h.0) hs }))
  unfolding IsTypedBlockItem IsTypedStmt IsTypedBlock IsTypedForLoop
  block-of hs = every_made-TypedBlock (BlockItemLevel k) (StmtLevel k) (λ _. Unit {0}) (ForLevel k) (record { items = map (λ h. h.0) hs }) (record { items = hs }) refl tt

  block-made : (xs : List TypedBlockItem) → AllByRecursion (IsTypedBlockItem k) xs → IsTypedBlock k (roll-TypedBlock (record { items = xs }))
  block-made xs hs = subst (λ ys. IsTypedBlock k (roll-TypedBlock (record { items = ys }))) (held_items-are xs hs) (block-of (held_items xs hs))

  for-made : (i : TypedForInit) (c s : Option TypedFullExpr) (b : TypedStmt) → IsTypedForInit k i → IfFull (IsTypedCondition k) c → IfFull (IsTypedFull k) s → IsTypedStmt k b
      → IsTypedForLoop k (roll-TypedForLoop (record { init = i; condition = c; step = s; body = b }))
  unfolding IsTypedBlockItem IsTypedStmt IsTypedBlock IsTypedForLoop
  for-made i c s b hi hc hs hb = every_made-TypedForLoop (BlockItemLevel k) (StmtLevel k) (λ _. Unit {0}) (ForLevel k) (record { init = i; condition = c; step = s; body = b }) (record { init = i; condition = c; step = s; body = (b, hb) }) refl
      (record { init = hi; condition = hc; step = hs })

-- ---- scopes

outer-fits : (gs ls : List Ty) (ss : List (List Binding)) → ScopesFit gs ls ss → ScopesFit gs ls (outer ss)
outer-fits gs ls [] fit = tt
outer-fits gs ls (s ∷ ss) fit = fit.1

module _ (stay : UnitsStay) (grow : TablesGrow) (k : Context) (gs : List Ty) (ahead : (n : ℕ) (t : Ty) → slice_get gs n ≡ Some t → global_type k n ≡ Some t) where
  -- a walk in a scope of its own leaves the scopes as they are
  closed : {A : Type 0} {Q : A → Type 0} (w : World) (o : Outcome (A × World)) → Goes k gs widening (record w { scopes = [] ∷ w.scopes }) o Q
      → Goes k gs widening w (and_then o (λ x v. Ok (x, record v { scopes = outer v.scopes }))) Q
  closed {A} {Q} w (Ok a) goes = record {
    found = λ r is sound.
        let h = goes.found a refl (tt, sound) in
        let end : World = record a.1 { scopes = outer a.1.scopes } in
        let wide : IsWidening w end = record { scopes = ap outer h.0.scopes; clean = λ c. subst HaveNoParameter (sym h.0.scopes) c; globals = h.0.globals; defined = h.0.defined; grown = h.0.grown; locals = h.0.locals; units = h.0.units } in
        let same : (a.0, end) ≡ r = cc in
        subst (λ (s : A × World). IsWidening w s.1 × Sound k gs s.1 × (Below k s.1 → Below k w × Q s.0)) same (
          wide,
          outer-fits gs (local_types a.1) a.1.scopes h.1,
          λ below.
              let n = h.2 (below-scopes grow k gs a.1 (outer a.1.scopes) below) in (below-scopes grow k gs w ([] ∷ w.scopes) n.0, n.1),
        );
  }
  closed w (Err e) goes = never k gs

  within-goes : {A : Type 0} {Q : A → Type 0} (p : Walk A) (w : World) → HaveNoParameter w.scopes → ((v : World) → HaveNoParameter v.scopes → Goes k gs widening v (p v) Q) → Goes k gs widening w (within p w) Q
  unfolding enter leave
  within-goes p w clean goes = closed w (p (record w { scopes = [] ∷ w.scopes })) (goes (record w { scopes = [] ∷ w.scopes }) (tt, clean))

  -- ---- expressions of statements

  value-goes : (e : Expr) (w : World) → HaveNoParameter w.scopes → Goes k gs widening w (typed_expr e Value w) (IsTypedValue k)
  value-goes e w clean = widely stay grow k gs ahead _ (weaker k gs _ (λ x h. record { levels = h.typed (inl clean); value = h.value })
      (expr-meets stay grow k gs ahead e w.scopes (local_types w) Value w (record { scopes = refl; locals = refl })))

  full-goes : (e : FullExpr) (w : World) → HaveNoParameter w.scopes → Goes k gs widening w (full e w) (IsTypedFull k)
  unfolding full
  full-goes e w clean = after k gs _ _ (value-goes e.expr w clean) (λ x v q. ends k gs (λ below h. h))

  condition-goes : (e : FullExpr) (w : World) → HaveNoParameter w.scopes → Goes k gs widening w (condition e w) (IsTypedCondition k)
  unfolding condition
  condition-goes e w clean = after k gs _ _ (full-goes e w clean) (λ x v q. ruled k gs broken.NotScalar (is_scalar_value x.expr) _ (λ scalar. ends k gs (λ below h. record { typed = h; scalar = scalar })))

  optional-goes : (o : Option FullExpr) (w : World) → HaveNoParameter w.scopes → Goes k gs widening w (optional o w) (IfFull (IsTypedFull k))
  optional-goes None w clean = ends k gs (λ below. tt)
  optional-goes (Some e) w clean = after k gs _ _ (full-goes e w clean) (λ x v q. ends k gs (λ below h. h))

  optional_condition-goes : (o : Option FullExpr) (w : World) → HaveNoParameter w.scopes → Goes k gs widening w (optional_condition o w) (IfFull (IsTypedCondition k))
  optional_condition-goes None w clean = ends k gs (λ below. tt)
  optional_condition-goes (Some e) w clean = after k gs _ _ (condition-goes e w clean) (λ x v q. ends k gs (λ below h. h))

  for_init-goes : (i : ForInit) (w : World) → HaveNoParameter w.scopes → Goes k gs widening w (typed_for_init i w) (IsTypedForInit k)
  unfolding typed_for_init
  for_init-goes (for_init.Decl d) w clean = after k gs _ _ (decl-goes stay grow k gs ahead d w clean) (λ x v q. ends k gs (λ below h. h))
  for_init-goes (for_init.Expr o) w clean = after k gs _ _ (optional-goes o w clean) (λ x v q. ends k gs (λ below h. h))

  rule-goes : (P : Type 0) (r : Rule) (b : Bool) (w : World) → (b ≡ true → P) → Goes k gs widening w (rule r b w) (λ u. P)
  rule-goes P r true w holds = ends k gs (λ below. holds refl)
  rule-goes P r false w holds = never k gs

  -- ---- statements, in a function that returns what the context says

  module _ (returns : Ty) (result : k.result ≡ returns) where
    void-goes : (o : Option TypedFullExpr) (w : World) → Goes k gs widening w (returned_rules returns o w) (λ u. IfFull (IsTypedFull k) o → ReturnRow k o)
    void-goes None w = rule-goes _ broken.Return (is_void returns) w (λ void h. ap is_void result ∙ void)
    void-goes (Some x) w = ruled k gs broken.Return (not (is_void returns)) _ (λ some. rule-goes _ broken.Unconverted (converts x.expr returns) w (λ fits h.
        record { typed = h; result = ap (λ t. not (is_void t)) result ∙ some; converts = ap (converts x.expr) result ∙ fits }))

    abbrev MeetsBlockItem : BlockItem → Type 0
    MeetsBlockItem t = (in_loop : Bool) (w : World) → HaveNoParameter w.scopes → Goes k gs widening w ((walked_statements returns).block_item t in_loop w) (IsTypedBlockItem k)

    abbrev MeetsStmt : Stmt → Type 0
    MeetsStmt t = (in_loop : Bool) (w : World) → HaveNoParameter w.scopes → Goes k gs widening w ((walked_statements returns).stmt t in_loop w) (IsTypedStmt k)

    abbrev MeetsBlock : Block → Type 0
    MeetsBlock t = (in_loop : Bool) (w : World) → HaveNoParameter w.scopes → Goes k gs widening w ((walked_statements returns).block t in_loop w) (IsTypedBlock k)

    abbrev MeetsForLoop : ForLoop → Type 0
    MeetsForLoop t = (in_loop : Bool) (w : World) → HaveNoParameter w.scopes → Goes k gs widening w ((walked_statements returns).for_loop t in_loop w) (IsTypedForLoop k)

    abbrev MetBlockItem : Type 0
    MetBlockItem = (t : BlockItem) × MeetsBlockItem t

    abbrev MetStmt : Type 0
    MetStmt = (t : Stmt) × MeetsStmt t

    abbrev MetBlock : Type 0
    MetBlock = (t : Block) × MeetsBlock t

    abbrev MetForLoop : Type 0
    MetForLoop = (t : ForLoop) × MeetsForLoop t

    abbrev Met : ((A B C D : Type 0) → Type 0) → Type 0
    Met F = F MetBlockItem MetStmt MetBlock MetForLoop

    abbrev plain_block_item : Met BlockItem-F → StatementNode PlainStatements BlockItem-F
    plain_block_item = map-BlockItem MetBlockItem MetStmt MetBlock MetForLoop BlockItem Stmt Block ForLoop (λ e. e.0) (λ e. e.0) (λ e. e.0) (λ e. e.0)

    abbrev plain_stmt : Met Stmt-F → StatementNode PlainStatements Stmt-F
    plain_stmt = map-Stmt MetBlockItem MetStmt MetBlock MetForLoop BlockItem Stmt Block ForLoop (λ e. e.0) (λ e. e.0) (λ e. e.0) (λ e. e.0)

    abbrev plain_block : Met Block-F → StatementNode PlainStatements Block-F
    plain_block = map-Block MetBlockItem MetStmt MetBlock MetForLoop BlockItem Stmt Block ForLoop (λ e. e.0) (λ e. e.0) (λ e. e.0) (λ e. e.0)

    abbrev plain_for_loop : Met ForLoop-F → StatementNode PlainStatements ForLoop-F
    plain_for_loop = map-ForLoop MetBlockItem MetStmt MetBlock MetForLoop BlockItem Stmt Block ForLoop (λ e. e.0) (λ e. e.0) (λ e. e.0) (λ e. e.0)

    walked-block_item : (node : StatementNode PlainStatements BlockItem-F) → (walked_statements returns).block_item (roll-BlockItem node)
        ≡ block_item_step (map-BlockItem _ _ _ _ _ _ _ _ (walked_statements returns).block_item (walked_statements returns).stmt (walked_statements returns).block (walked_statements returns).for_loop node)
    unfolding walked_statements fold_statements
    walked-block_item node = fold-roll-BlockItem _ _ _ _ block_item_step (stmt_step returns) block_step for_step node

    walked-stmt : (node : StatementNode PlainStatements Stmt-F) → (walked_statements returns).stmt (roll-Stmt node)
        ≡ stmt_step returns (map-Stmt _ _ _ _ _ _ _ _ (walked_statements returns).block_item (walked_statements returns).stmt (walked_statements returns).block (walked_statements returns).for_loop node)
    unfolding walked_statements fold_statements
    walked-stmt node = fold-roll-Stmt _ _ _ _ block_item_step (stmt_step returns) block_step for_step node

    walked-block : (node : StatementNode PlainStatements Block-F) → (walked_statements returns).block (roll-Block node)
        ≡ block_step (map-Block _ _ _ _ _ _ _ _ (walked_statements returns).block_item (walked_statements returns).stmt (walked_statements returns).block (walked_statements returns).for_loop node)
    unfolding walked_statements fold_statements
    walked-block node = fold-roll-Block _ _ _ _ block_item_step (stmt_step returns) block_step for_step node

    walked-for_loop : (node : StatementNode PlainStatements ForLoop-F) → (walked_statements returns).for_loop (roll-ForLoop node)
        ≡ for_step (map-ForLoop _ _ _ _ _ _ _ _ (walked_statements returns).block_item (walked_statements returns).stmt (walked_statements returns).block (walked_statements returns).for_loop node)
    unfolding walked_statements fold_statements
    walked-for_loop node = fold-roll-ForLoop _ _ _ _ block_item_step (stmt_step returns) block_step for_step node

    along : {A : Type 0} (Q : A → Type 0) {p q : Bool → Walk A} (in_loop : Bool) (w : World) → p ≡ q → Goes k gs widening w (q in_loop w) Q → Goes k gs widening w (p in_loop w) Q
    along {A} Q {p} {q} in_loop w walks goes = subst (λ (f : Bool → Walk A). Goes k gs widening w (f in_loop w) Q) (sym walks) goes

    branches-go : (s o : MetStmt) (in_loop : Bool) (w : World) → HaveNoParameter w.scopes
        → Goes k gs widening w (branches ((walked_statements returns).stmt s.0) ((walked_statements returns).stmt o.0) in_loop w) (λ r. IsTypedStmt k r.0 × IsTypedStmt k r.1)
    branches-go s o in_loop w clean =
        after k gs _ _ (s.1 in_loop w clean) (λ y v q.
        after k gs _ _ (o.1 in_loop v (q.clean clean)) (λ z u r.
        ends k gs (λ below hz hy. (hy, hz))))

    jump-goes : (s : TypedStmt) (in_loop : Bool) (w : World) → IsTypedStmt k s → Goes k gs widening w (jump s in_loop w) (IsTypedStmt k)
    jump-goes s in_loop w h = ruled k gs broken.OutsideLoop in_loop _ (λ inside. ends k gs (λ below. h))

    return-goes : (o : Option FullExpr) (w : World) → HaveNoParameter w.scopes → Goes k gs widening w (return_walked returns o w) (IsTypedStmt k)
    return-goes o w clean =
        after k gs _ _ (optional-goes o w clean) (λ x v q.
        after k gs _ _ (void-goes x v) (λ u s r.
        ends k gs (λ below row h. stmt-Return k x (row h))))

    stmt-met : (y : Met Stmt-F) → MeetsStmt (roll-Stmt (plain_stmt y))
    stmt-met (Stmt-F.Block b) = λ in_loop w clean. along _ in_loop w (walked-stmt (Stmt-F.Block b.0))
        (after k gs _ _ (within-goes ((walked_statements returns).block b.0 in_loop) w clean (λ v c. b.1 in_loop v c)) (λ x v q. ends k gs (λ below h. stmt-Block k x h tt)))
    stmt-met (Stmt-F.If c s None) = λ in_loop w clean. along _ in_loop w (walked-stmt (Stmt-F.If c s.0 None))
        (after k gs _ _ (condition-goes c w clean) (λ x v q.
        after k gs _ _ (s.1 in_loop v (q.clean clean)) (λ y u r.
        ends k gs (λ below hy hx. stmt-if_alone k x y hy hx))))
    stmt-met (Stmt-F.If c s (Some o)) = λ in_loop w clean. along _ in_loop w (walked-stmt (Stmt-F.If c s.0 (Some o.0)))
        (after k gs _ _ (condition-goes c w clean) (λ x v q.
        after k gs _ _ (branches-go s o in_loop v (q.clean clean)) (λ b u r.
        ends k gs (λ below hb hx. stmt-if_else k x b.0 b.1 hb.0 hb.1 hx))))
    stmt-met (Stmt-F.While c s) = λ in_loop w clean. along _ in_loop w (walked-stmt (Stmt-F.While c s.0))
        (after k gs _ _ (condition-goes c w clean) (λ x v q.
        after k gs _ _ (s.1 true v (q.clean clean)) (λ y u r.
        ends k gs (λ below hy hx. stmt-While k x y hy hx))))
    stmt-met (Stmt-F.Do s c) = λ in_loop w clean. along _ in_loop w (walked-stmt (Stmt-F.Do s.0 c))
        (after k gs _ _ (s.1 true w clean) (λ y v q.
        after k gs _ _ (condition-goes c v (q.clean clean)) (λ x u r.
        ends k gs (λ below hx hy. stmt-Do k y x hy hx))))
    stmt-met (Stmt-F.For f) = λ in_loop w clean. along _ in_loop w (walked-stmt (Stmt-F.For f.0))
        (after k gs _ _ (within-goes ((walked_statements returns).for_loop f.0 in_loop) w clean (λ v c. f.1 in_loop v c)) (λ x v q. ends k gs (λ below h. stmt-For k x h tt)))
    stmt-met Stmt-F.Break = λ in_loop w clean. along _ in_loop w (walked-stmt Stmt-F.Break) (jump-goes stmt.Break in_loop w (stmt-Break k tt))
    stmt-met Stmt-F.Continue = λ in_loop w clean. along _ in_loop w (walked-stmt Stmt-F.Continue) (jump-goes stmt.Continue in_loop w (stmt-Continue k tt))
    stmt-met (Stmt-F.Return o) = λ in_loop w clean. along _ in_loop w (walked-stmt (Stmt-F.Return o)) (return-goes o w clean)
    stmt-met (Stmt-F.Expr o) = λ in_loop w clean. along _ in_loop w (walked-stmt (Stmt-F.Expr o))
        (after k gs _ _ (optional-goes o w clean) (λ x v q. ends k gs (λ below h. stmt-Expr k x h)))

    block_item-met : (y : Met BlockItem-F) → MeetsBlockItem (roll-BlockItem (plain_block_item y))
    block_item-met (BlockItem-F.Decl d) = λ in_loop w clean. along _ in_loop w (walked-block_item (BlockItem-F.Decl d))
        (after k gs _ _ (decl-goes stay grow k gs ahead d w clean) (λ x v q. ends k gs (λ below h. item-Decl k x h)))
    block_item-met (BlockItem-F.Stmt s) = λ in_loop w clean. along _ in_loop w (walked-block_item (BlockItem-F.Stmt s.0))
        (after k gs _ _ (s.1 in_loop w clean) (λ x v q. ends k gs (λ below h. item-Stmt k x h tt)))

    -- ---- blocks and `for` loops

    items-go : (hs : List MetBlockItem) (in_loop : Bool) (w : World) → HaveNoParameter w.scopes
        → Goes k gs widening w (block_items (map (walked_statements returns).block_item (map (λ (h : MetBlockItem). h.0) hs)) in_loop w) (AllByRecursion (IsTypedBlockItem k))
    items-go [] in_loop w clean = ends k gs (λ below. tt)
    items-go (h ∷ hs) in_loop w clean =
        after k gs _ _ (h.1 in_loop w clean) (λ x v q.
        after k gs _ _ (items-go hs in_loop v (q.clean clean)) (λ xs u r.
        ends k gs (λ below hxs hx. (hx, hxs))))

    block-met : (y : Met Block-F) → MeetsBlock (roll-Block (plain_block y))
    block-met y = λ in_loop w clean. along _ in_loop w (walked-block (plain_block y))
        (after k gs _ _ (items-go y.items in_loop w clean) (λ xs v q. ends k gs (λ below h. block-made k xs h)))

    head-goes : (i : ForInit) (c s : Option FullExpr) (w : World) → HaveNoParameter w.scopes
        → Goes k gs widening w (for_head i c s w) (λ h. IsTypedForInit k h.0 × IfFull (IsTypedCondition k) h.1 × IfFull (IsTypedFull k) h.2)
    head-goes i c s w clean =
        after k gs _ _ (for_init-goes i w clean) (λ x v q.
        after k gs _ _ (optional_condition-goes c v (q.clean clean)) (λ y u r.
        after k gs _ _ (optional-goes s u (r.clean (q.clean clean))) (λ z t m.
        ends k gs (λ below hz hy hx. (hx, hy, hz)))))

    for_loop-met : (y : Met ForLoop-F) → MeetsForLoop (roll-ForLoop (plain_for_loop y))
    for_loop-met y = λ in_loop w clean. along _ in_loop w (walked-for_loop (plain_for_loop y))
        (after k gs _ _ (head-goes y.init y.condition y.step w clean) (λ h v q.
        after k gs _ _ (y.body.1 true v (q.clean clean)) (λ b u r.
        ends k gs (λ below hb hh. for-made k h.0 h.1 h.2 b hh.0 hh.1 hh.2 hb))))

    -- ---- each tree

    block_item-step : (x : StatementNode PlainStatements BlockItem-F) (y : Met BlockItem-F) → plain_block_item y ≡ x → MeetsBlockItem (roll-BlockItem x)
    block_item-step x y is = subst (λ z. MeetsBlockItem (roll-BlockItem z)) is (block_item-met y)

    stmt-step : (x : StatementNode PlainStatements Stmt-F) (y : Met Stmt-F) → plain_stmt y ≡ x → MeetsStmt (roll-Stmt x)
    stmt-step x y is = subst (λ z. MeetsStmt (roll-Stmt z)) is (stmt-met y)

    block-step : (x : StatementNode PlainStatements Block-F) (y : Met Block-F) → plain_block y ≡ x → MeetsBlock (roll-Block x)
    block-step x y is = subst (λ z. MeetsBlock (roll-Block z)) is (block-met y)

    for_loop-step : (x : StatementNode PlainStatements ForLoop-F) (y : Met ForLoop-F) → plain_for_loop y ≡ x → MeetsForLoop (roll-ForLoop x)
    for_loop-step x y is = subst (λ z. MeetsForLoop (roll-ForLoop z)) is (for_loop-met y)

    pub block-meets : (t : Block) → MeetsBlock t
    block-meets = ind-Block MeetsBlockItem MeetsStmt MeetsBlock MeetsForLoop block_item-step stmt-step block-step for_loop-step
