-- The lines of typed statements and blocks are as asked.
use Rattle.std.proofs.Common.{◌≡◌, ℕ, ◌<◌, Bool, true, false, not, ◌||◌, List, [], ◌∷◌, map, Option, Some, None, option_map, refl, sym, subst, slice_get}
use Rattle.std.specs.List.{AllByRecursion, list_any}
use Rattle.c_types.specs.declared.ty.Ty.{Ty}
use Rattle.c_types.specs.declared.ty.FnTy.{out-FnTy}
use Rattle.c_types.specs.Kinds.{is_scalar, is_void, decay}
use Rattle.c_typed.specs.declared.entity.Entity.{Entity}
use Rattle.c_typed.specs.declared.entity.Entity.TheVariants as entity
use Rattle.c_typed.specs.declared.expression.Declared.{out-Declared}
use Rattle.c_typed.specs.declared.statement.TypedBlock.{TypedBlock, fold-roll-TypedBlock, ind-TypedBlock, map-TypedBlock, roll-TypedBlock}
use Rattle.c_typed.specs.declared.statement.TypedBlockItem.{TypedBlockItem, fold-TypedBlockItem, fold-roll-TypedBlockItem, map-TypedBlockItem, roll-TypedBlockItem}
use Rattle.c_typed.specs.declared.statement.TypedBlockItem.TheOpen.{TypedBlock-F, TypedBlockItem-F, TypedForLoop-F, TypedStmt-F}
use Rattle.c_typed.specs.declared.statement.TypedDecl.{TypedDecl}
use Rattle.c_typed.specs.declared.statement.TypedForInit.{TypedForInit}
use Rattle.c_typed.specs.declared.statement.TypedForInit.TheVariants as for_init
use Rattle.c_typed.specs.declared.statement.TypedForLoop.{TypedForLoop, fold-TypedForLoop, roll-TypedForLoop, map-TypedForLoop}
use Rattle.c_typed.specs.declared.statement.TypedFullExpr.{TypedFullExpr}
use Rattle.c_typed.specs.declared.statement.TypedInit.{TypedInit, every-TypedInit, out-TypedInit}
use Rattle.c_typed.specs.declared.statement.TypedInit.TheOpen.{TypedInit-F}
use Rattle.c_typed.specs.declared.statement.TypedInitDeclarator.{TypedInitDeclarator}
use Rattle.c_typed.specs.declared.statement.TypedStmt.{TypedStmt, fold-TypedStmt, fold-roll-TypedStmt, map-TypedStmt, roll-TypedStmt}
use Rattle.c_typed.specs.declared.unit.Local.{Local}
use Rattle.c_operators.specs.Operators.{converts, takes_value}
use Rattle.c_typed_rows.specs.Contexts.{Context}
use Rattle.c_typed_rows.specs.Initialisers.{IsTypedInit}
use Rattle.c_typed_rows.specs.Statements.{BlockItemLevel, DeclaredRow, ForLevel, IfFull, IsTypedBlock, IsTypedCondition, IsTypedDecl, IsTypedForInit, IsTypedFull, IsTypedInitDeclarator, ReturnRow, StmtLevel, block_item_jumps, block_jumps, jumps_out, stmt_jumps}
use Rattle.core_ir.specs.declared.program.Function.{Function}
use Rattle.core_ir.specs.declared.program.Program.{Program}
use Rattle.elab_rows.specs.declared.scope.Scope.{Scope}
use Rattle.elab_rows.specs.declared.scope.Standing.{Standing}
use Rattle.elab_rows.specs.declared.scope.Standing.TheVariants as stands
use Rattle.elab_rows.specs.Addresses.{local_address, slot_assigned}
use Rattle.elab_rows.specs.Made.{nothing}
use Rattle.elab_rows.specs.Values.{converted_code, converted_part, part, value_code}
use Rattle.elab_pieces.specs.Lines.{PieceCode, all_joined}
use Rattle.elab_pieces.specs.Statements.{block_code, block_item_code, block_item_step, decl_code, declarator_code, entity_initialised, expr_code, first_code, for_loop_code, leaving, local_initialised, loop_code, optional_initialised, return_code, returned, returned_nothing, slot_initialised, step_code, stmt_code, stmt_step, value_of}
use Rattle.elab_valid.proofs.Names.{LocalFits, ScopeFits, StandingFits, local_type as frame_type}
use Rattle.c_typed_rows.specs.Types as types
use Rattle.c_typed_rows.specs.Types.{BlockTypes, DeclTypes, DeclaredTypes, ForInitTypes, FullTypes, InitDeclaratorTypes, OptionalInitTypes, OptionalTypes}
use Rattle.elab_valid.specs.Types.{TellsTypes}
use Rattle.elab_valid.proofs.AssignmentsMet as assignments
use Rattle.elab_valid.proofs.ExpressionsMet.{expression-met}
use Rattle.elab_valid.proofs.InitialisersSound as initialisers
use Rattle.elab_valid.proofs.KeptRows as kept
use Rattle.elab_valid.proofs.MetParts as met
use Rattle.elab_valid.proofs.MetParts.{IsScalar, Laws, Names, SlotIs, Slots, Valued}
use Rattle.elab_valid.proofs.HeldTypes as held
use Rattle.elab_valid.proofs.NamesMet.{local-memory, mapped, slot-known}
use Rattle.elab_valid.proofs.SoundPieces as pieces
use Rattle.elab_valid.proofs.SourceNames.{declared-test}
use Rattle.elab_valid.proofs.SoundPieces.{AllFull, AllSound, Closed, IfTest, PieceLaws, SoundFull, SoundPiece, SoundTest}
use Rattle.elab_valid.proofs.StatementTrees as tree
use Rattle.elab_valid.proofs.StatementTrees.{EachItem, EveryBlock, EveryFor, EveryItem, EveryStmt, IfStmt, ItemPart, Layer, StmtParts}
use Rattle.elab_valid.proofs.TypeKinds.{second}
use Rattle.elab_valid.proofs.UnaryMet as unary

-- ---- which statements jump out

unfoldable item_jumps_out : TypedBlockItem → Bool
item_jumps_out = fold-TypedBlockItem Bool Bool Bool Bool block_item_jumps stmt_jumps block_jumps (λ f. false)

unfoldable stmt_jumps_out : TypedStmt → Bool
stmt_jumps_out = fold-TypedStmt Bool Bool Bool Bool block_item_jumps stmt_jumps block_jumps (λ f. false)

unfoldable for_jumps_out : TypedForLoop → Bool
for_jumps_out = fold-TypedForLoop Bool Bool Bool Bool block_item_jumps stmt_jumps block_jumps (λ f. false)

stmt-jumps : (x : Layer TypedStmt-F) → stmt_jumps_out (roll-TypedStmt x) ≡ stmt_jumps (map-TypedStmt _ _ _ _ _ _ _ _ item_jumps_out stmt_jumps_out jumps_out for_jumps_out x)
unfolding item_jumps_out stmt_jumps_out jumps_out for_jumps_out
stmt-jumps x = fold-roll-TypedStmt Bool Bool Bool Bool block_item_jumps stmt_jumps block_jumps (λ f. false) x

item-jumps : (x : Layer TypedBlockItem-F) → item_jumps_out (roll-TypedBlockItem x) ≡ block_item_jumps (map-TypedBlockItem _ _ _ _ _ _ _ _ item_jumps_out stmt_jumps_out jumps_out for_jumps_out x)
unfolding item_jumps_out stmt_jumps_out jumps_out for_jumps_out
item-jumps x = fold-roll-TypedBlockItem Bool Bool Bool Bool block_item_jumps stmt_jumps block_jumps (λ f. false) x

block-jumps : (x : Layer TypedBlock-F) → jumps_out (roll-TypedBlock x) ≡ block_jumps (map-TypedBlock _ _ _ _ _ _ _ _ item_jumps_out stmt_jumps_out jumps_out for_jumps_out x)
unfolding item_jumps_out stmt_jumps_out jumps_out for_jumps_out
block-jumps x = fold-roll-TypedBlock Bool Bool Bool Bool block_item_jumps stmt_jumps block_jumps (λ f. false) x

neither-first : (a b : Bool) → (a || b) ≡ false → a ≡ false
neither-first true b h = cc
neither-first false b h = refl

neither-second : (a b : Bool) → (a || b) ≡ false → b ≡ false
neither-second true b h = cc
neither-second false b h = h

not-false : (b : Bool) → not b ≡ true → b ≡ false
not-false true h = cc
not-false false h = refl

module _ (laws : PieceLaws) (p : Program) (f : Function) (frame : Bool) (k : Context) (scope : Scope) (fits : ScopeFits laws.base.known k scope p f)
    (test : Ty → Bool) (tells : TellsTypes p.structs test) (framed : scope.has_frame ≡ frame) (same : scope.result ≡ k.result) (returns : is_void k.result ≡ false → IsScalar laws.base p f k.result) (result_is : (out-FnTy f.ty).result ≡ k.result) where
  abbrev base : Laws
  base = laws.base

  abbrev Piece : PieceCode → Type 0
  Piece c = SoundPiece laws p f frame c

  -- ---- expressions

  full-value : (x : TypedFullExpr) → IsTypedFull k x → FullTypes test x → SoundFull laws p f frame (value_of scope x)
  unfolding value_code
  full-value x typed fit =
      let h = expression-met base p f k scope fits test tells x.expr typed.levels fit in
      pieces.full-sound laws p f frame (part scope x.expr).value h.met.done h.met.kept h.met.typed_done

  condition : (x : TypedFullExpr) → IsTypedCondition k x → FullTypes test x → SoundTest laws p f frame (value_of scope x)
  unfolding value_code
  condition x typed fit =
      let h = expression-met base p f k scope fits test tells x.expr typed.typed.levels fit in
      let v = met.value-given base p f k scope x.expr h typed.typed.value (unary.scalar-scalar_value base p f k scope fits x.expr h typed.scalar) in
      pieces.test-sound laws p f frame (part scope x.expr).value v.good v.kept (met.typed-done base p f (part scope x.expr).value (decay (part scope x.expr).ty) v.typed)

  if-condition : (o : Option TypedFullExpr) → IfFull (IsTypedCondition k) o → OptionalTypes test o → IfTest laws p f frame (option_map (value_of scope) o)
  if-condition None typed fit = tt
  if-condition (Some x) typed fit = condition x typed fit

  expression : (o : Option TypedFullExpr) → IfFull (IsTypedFull k) o → OptionalTypes test o → Piece (expr_code scope o)
  expression None typed fit = pieces.nothing-sound laws p f frame
  expression (Some x) typed fit = pieces.expression-sound laws p f frame (value_of scope x) (full-value x typed fit)

  step : (o : Option TypedFullExpr) → IfFull (IsTypedFull k) o → OptionalTypes test o → SoundFull laws p f frame (step_code scope o)
  step None typed fit = pieces.full-sound laws p f frame nothing (λ place register slot. base.parts.composition.none place register) (kept.kept_nothing base.fit base.touch p f)
      (λ place register slot. held.nothing-holds p f (Slots base p f) register slot)
  step (Some x) typed fit = full-value x typed fit

  return-piece : (o : Option TypedFullExpr) → ReturnRow k o → OptionalTypes test o → Piece (return_code scope o)
  unfolding converted_code
  return-piece None row fit = subst (λ b. Piece (returned_nothing b)) (sym framed) (pieces.return_nothing-sound laws p f frame)
  return-piece (Some x) row fit =
      let h = expression-met base p f k scope fits test tells x.expr row.typed.levels fit in
      let at = returns (not-false (is_void k.result) row.result) in
      let v = met.converted-given base p f k scope x.expr h k.result row.typed.value at (met.value-converts base p f k scope x.expr h k.result row.converts) (unary.names-value base p f k scope fits x.expr h) in
      let test = pieces.test-sound laws p f frame (converted_part (part scope x.expr) k.result) v.good v.kept (met.typed-done base p f (converted_part (part scope x.expr) k.result) k.result v.typed) in
      subst (λ b. Piece (returned b (converted_part (part scope x.expr) scope.result))) (sym framed)
      (subst (λ t. Piece (returned frame (converted_part (part scope x.expr) t))) (sym same) (pieces.return-sound laws p f frame (converted_part (part scope x.expr) k.result) test (subst (Valued base p f (converted_part (part scope x.expr) k.result)) (sym result_is) v.typed)))

  -- ---- declarations

  slot-init : (s : ℕ) (t : Ty) (i : TypedInit) (o : TypedInit-F TypedInit) → out-TypedInit i ≡ o → s < f.slots → SlotIs base p f s t → is_scalar t ≡ true → Names base p f t → IsTypedInit k t i → every-TypedInit (types.InitLevel test) i
      → AllFull laws p f frame (slot_initialised scope s t o)
  unfolding converted_code
  slot-init s t i (TypedInit-F.Text bytes) out lt slot_is scalar names typed fit = tt
  slot-init s t i (TypedInit-F.Braces is) out lt slot_is scalar names typed fit = tt
  slot-init s t i (TypedInit-F.Expr e) out lt slot_is scalar names typed fit =
      let given = initialisers.whole-given laws p f frame k scope fits test tells t i typed fit (TypedInit-F.Expr e) out e refl in
      let h = given.0.0 in
      let v = met.converted-given base p f k scope e h t given.0.1 (scalar, names) (met.value-converts base p f k scope e h t (second (takes_value t) (converts e t) given.1)) (unary.names-value base p f k scope fits e h) in
      let stored = assignments.slot-given base p f k scope fits s (converted_part (part scope e) t) t lt slot_is v in
      (pieces.full-sound laws p f frame (slot_assigned s (converted_part (part scope e) t)) (met.done base p f (slot_assigned s (converted_part (part scope e) t)) stored.good) stored.kept (met.typed-done base p f (slot_assigned s (converted_part (part scope e) t)) t stored.typed), tt)

  local-init : (n : ℕ) (l : Local) → LocalFits laws.base.known p f scope n l → (st : Standing) → StandingFits laws.base.known f l st → (t : Ty) → l.ty ≡ t → Names base p f t → (i : TypedInit) → IsTypedInit k t i → every-TypedInit (types.InitLevel test) i
      → AllFull laws p f frame (local_initialised scope (Some st) t i)
  local-init n l fit (stands.Slot s) h t same_type names i typed types =
      slot-init s t i (out-TypedInit i) refl h.0 (subst (SlotIs base p f s) same_type (slot-known base p f k scope fits s l.ty h.3)) (subst (λ u. is_scalar u ≡ true) same_type h.1) names typed types
  local-init n l fit (stands.Frame v) h t same_type names i typed types =
      initialisers.initialised-full laws p f frame k scope fits test tells t (local_address v) (local-memory base p f k scope fits v t h.0 (subst (λ u. frame_type f v ≡ Some u) same_type h.1) names) i typed types

  entity-init : (e : Entity) (t : Ty) (i : TypedInit) → DeclaredRow k e t (Some i) → Names base p f t → every-TypedInit (types.InitLevel test) i → AllFull laws p f frame (entity_initialised scope e t i)
  entity-init (entity.Global n) t i row names fit = tt
  entity-init entity.Parameter t i row names fit = tt
  entity-init entity.Function t i row names fit = tt
  entity-init (entity.BuiltIn b) t i row names fit = tt
  entity-init (entity.Local n) t i row names fit =
      let l = mapped (λ (l : Local). l.ty) (slice_get k.locals n) t row.0 in
      let local = fits.locals n l.0 l.1 in
      subst (λ o. AllFull laws p f frame (local_initialised scope o t i)) (sym local.there) (local-init n l.0 local local.standing local.fits t l.2 names i row.1.init fit)

  optional-init : (e : Entity) (t : Ty) (o : Option TypedInit) → DeclaredRow k e t o → Names base p f t → OptionalInitTypes test o → Piece (optional_initialised scope e t o)
  optional-init e t None row names fit = pieces.nothing-sound laws p f frame
  optional-init e t (Some i) row names fit = pieces.expressions-sound laws p f frame (entity_initialised scope e t i) (entity-init e t i row names fit)

  declarators : (ds : List TypedInitDeclarator) → AllByRecursion (IsTypedInitDeclarator k) ds → AllByRecursion (InitDeclaratorTypes test) ds → AllSound laws p f frame (map (declarator_code scope) ds)
  declarators [] typed fit = tt
  declarators (d ∷ ds) typed fit = (optional-init d.entity (out-Declared d.declared).ty d.init typed.0.row (tells.named (out-Declared d.declared).ty (declared-test test d.declared fit.0.declared)) fit.0.init, declarators ds typed.1 fit.1)

  pub declaration : (d : TypedDecl) → IsTypedDecl k d → DeclTypes test d → Piece (decl_code scope d)
  declaration d typed fit = pieces.joins-sound laws p f frame (map (declarator_code scope) d.declarators) (declarators d.declarators typed.declarators fit.declarators)

  optional-closed : (e : Entity) (t : Ty) (o : Option TypedInit) → Closed (optional_initialised scope e t o)
  optional-closed e t None = λ place slot. tt
  optional-closed e t (Some i) = pieces.expressions-closed (entity_initialised scope e t i)

  declarators-closed : (ds : List TypedInitDeclarator) → Closed (all_joined (map (declarator_code scope) ds))
  declarators-closed [] = λ place slot. tt
  declarators-closed (d ∷ ds) =
      pieces.join-closed (declarator_code scope d) (all_joined (map (declarator_code scope) ds)) (optional-closed d.entity (out-Declared d.declared).ty d.init) (declarators-closed ds)

  -- ---- the first part of a `for`

  first-part : (i : TypedForInit) → IsTypedForInit k i → ForInitTypes test i → Piece (first_code scope i)
  first-part (for_init.Decl d) typed fit = declaration d typed fit
  first-part (for_init.Expr o) typed fit = expression o typed fit

  expression-closed : (o : Option TypedFullExpr) → Closed (expr_code scope o)
  expression-closed None = λ place slot. tt
  expression-closed (Some x) = pieces.full-closed (value_of scope x)

  first-closed : (i : TypedForInit) → Closed (first_code scope i)
  first-closed (for_init.Decl d) = declarators-closed d.declarators
  first-closed (for_init.Expr o) = expression-closed o

  return-closed : (o : Option TypedFullExpr) → Closed (return_code scope o)
  return-closed None = pieces.plain-closed (leaving scope.has_frame None)
  return-closed (Some x) = pieces.return-closed scope.has_frame (converted_code scope x.expr scope.result)

  -- ---- trees

  abbrev ItemTyped : TypedBlockItem → Type 0
  ItemTyped = EveryItem (BlockItemLevel k) (StmtLevel k) (λ _. Unit {0}) (ForLevel k)

  abbrev StmtTyped : TypedStmt → Type 0
  StmtTyped = EveryStmt (BlockItemLevel k) (StmtLevel k) (λ _. Unit {0}) (ForLevel k)

  abbrev BlockTyped : TypedBlock → Type 0
  BlockTyped = EveryBlock (BlockItemLevel k) (StmtLevel k) (λ _. Unit {0}) (ForLevel k)

  abbrev ForTyped : TypedForLoop → Type 0
  ForTyped = EveryFor (BlockItemLevel k) (StmtLevel k) (λ _. Unit {0}) (ForLevel k)

  abbrev ItemFit : TypedBlockItem → Type 0
  ItemFit = EveryItem (types.BlockItemLevel test) (types.StmtLevel test) (λ _. Unit {0}) (types.ForLevel test)

  abbrev StmtFit : TypedStmt → Type 0
  StmtFit = EveryStmt (types.BlockItemLevel test) (types.StmtLevel test) (λ _. Unit {0}) (types.ForLevel test)

  abbrev BlockFit : TypedBlock → Type 0
  BlockFit = EveryBlock (types.BlockItemLevel test) (types.StmtLevel test) (λ _. Unit {0}) (types.ForLevel test)

  abbrev ForFit : TypedForLoop → Type 0
  ForFit = EveryFor (types.BlockItemLevel test) (types.StmtLevel test) (λ _. Unit {0}) (types.ForLevel test)

  -- lines that are as asked, and none of them open where nothing jumps out
  abbrev Lines : PieceCode → Bool → Type 0
  Lines c jumps = Piece c × (jumps ≡ false → Closed c)

  abbrev Item : TypedBlockItem → Type 0
  Item t = ItemTyped t → ItemFit t → Lines (block_item_code scope t) (item_jumps_out t)

  abbrev Stmt : TypedStmt → Type 0
  Stmt t = StmtTyped t → StmtFit t → Lines (stmt_code scope t) (stmt_jumps_out t)

  abbrev Block : TypedBlock → Type 0
  Block t = BlockTyped t → BlockFit t → Lines (block_code scope t) (jumps_out t)

  abbrev For : TypedForLoop → Type 0
  For t = ForTyped t → ForFit t → Lines (for_loop_code scope t) false

  abbrev Held : ((A B C D : Type 0) → Type 0) → Type 0
  Held G = G ((t : TypedBlockItem) × Item t) ((t : TypedStmt) × Stmt t) ((t : TypedBlock) × Block t) ((t : TypedForLoop) × For t)

  abbrev bare_item : Held TypedBlockItem-F → Layer TypedBlockItem-F
  bare_item = map-TypedBlockItem _ _ _ _ TypedBlockItem TypedStmt TypedBlock TypedForLoop (λ e. e.0) (λ e. e.0) (λ e. e.0) (λ e. e.0)

  abbrev bare_stmt : Held TypedStmt-F → Layer TypedStmt-F
  bare_stmt = map-TypedStmt _ _ _ _ TypedBlockItem TypedStmt TypedBlock TypedForLoop (λ e. e.0) (λ e. e.0) (λ e. e.0) (λ e. e.0)

  abbrev bare_block : Held TypedBlock-F → Layer TypedBlock-F
  bare_block = map-TypedBlock _ _ _ _ TypedBlockItem TypedStmt TypedBlock TypedForLoop (λ e. e.0) (λ e. e.0) (λ e. e.0) (λ e. e.0)

  abbrev bare_for : Held TypedForLoop-F → Layer TypedForLoop-F
  bare_for = map-TypedForLoop _ _ _ _ TypedBlockItem TypedStmt TypedBlock TypedForLoop (λ e. e.0) (λ e. e.0) (λ e. e.0) (λ e. e.0)

  abbrev coded : Layer TypedStmt-F → PieceCode
  coded x = stmt_step scope (map-TypedStmt _ _ _ _ _ _ _ _ (block_item_code scope) (stmt_code scope) (block_code scope) (for_loop_code scope) x)

  abbrev jumping : Layer TypedStmt-F → Bool
  jumping x = stmt_jumps (map-TypedStmt _ _ _ _ _ _ _ _ item_jumps_out stmt_jumps_out jumps_out for_jumps_out x)

  stmt-by : (y : Held TypedStmt-F) → StmtLevel k (bare_stmt y) × StmtParts StmtTyped BlockTyped ForTyped (bare_stmt y) → types.StmtLevel test (bare_stmt y) × StmtParts StmtFit BlockFit ForFit (bare_stmt y)
      → Lines (coded (bare_stmt y)) (jumping (bare_stmt y))
  stmt-by (TypedStmt-F.Block b) h m = b.1 h.1 m.1
  stmt-by (TypedStmt-F.If c s None) h m =
      let inner = s.1 h.1.0 m.1.0 in
      (pieces.if-sound laws p f frame (value_of scope c) (stmt_code scope s.0) (condition c h.0 m.0) inner.0, λ out. pieces.if-closed (value_of scope c) (stmt_code scope s.0) (inner.1 out))
  stmt-by (TypedStmt-F.If c s (Some o)) h m =
      let inner = s.1 h.1.0 m.1.0 in
      let other = o.1 h.1.1 m.1.1 in (
        pieces.if_else-sound laws p f frame (value_of scope c) (stmt_code scope s.0) (stmt_code scope o.0) (condition c h.0 m.0) inner.0 other.0,
        λ out. pieces.if_else-closed (value_of scope c) (stmt_code scope s.0) (stmt_code scope o.0) (inner.1 (neither-first (stmt_jumps_out s.0) (stmt_jumps_out o.0) out))
            (other.1 (neither-second (stmt_jumps_out s.0) (stmt_jumps_out o.0) out)),
      )
  stmt-by (TypedStmt-F.While c s) h m =
      (pieces.while-sound laws p f frame (value_of scope c) (stmt_code scope s.0) (condition c h.0 m.0) (s.1 h.1 m.1).0, λ out. pieces.while-closed (value_of scope c) (stmt_code scope s.0))
  stmt-by (TypedStmt-F.Do s c) h m =
      (pieces.do-sound laws p f frame (stmt_code scope s.0) (value_of scope c) (s.1 h.1 m.1).0 (condition c h.0 m.0), λ out. pieces.do-closed (stmt_code scope s.0) (value_of scope c))
  stmt-by (TypedStmt-F.For g) h m = g.1 h.1 m.1
  stmt-by TypedStmt-F.Break h m = (pieces.breaks-sound laws p f frame, λ out. absurd (cc))
  stmt-by TypedStmt-F.Continue h m = (pieces.continues-sound laws p f frame, λ out. absurd (cc))
  stmt-by (TypedStmt-F.Return o) h m = (return-piece o h.0 m.0, λ out. return-closed o)
  stmt-by (TypedStmt-F.Expr o) h m = (expression o h.0 m.0, λ out. expression-closed o)

  stmt-step : (y : Held TypedStmt-F) → Stmt (roll-TypedStmt (bare_stmt y))
  stmt-step y typed fit =
      let h = tree.opened-stmt (BlockItemLevel k) (StmtLevel k) (λ _. Unit {0}) (ForLevel k) (bare_stmt y) typed in
      let m = tree.opened-stmt (types.BlockItemLevel test) (types.StmtLevel test) (λ _. Unit {0}) (types.ForLevel test) (bare_stmt y) fit in
      subst (λ c. Lines c (stmt_jumps_out (roll-TypedStmt (bare_stmt y)))) (sym (tree.stmt-code scope (bare_stmt y)))
      (subst (Lines (coded (bare_stmt y))) (sym (stmt-jumps (bare_stmt y))) (stmt-by y h m))

  item-by : (y : Held TypedBlockItem-F) → BlockItemLevel k (bare_item y) × ItemPart StmtTyped (bare_item y) → types.BlockItemLevel test (bare_item y) × ItemPart StmtFit (bare_item y)
      → Lines (block_item_step scope (map-TypedBlockItem _ _ _ _ _ _ _ _ (block_item_code scope) (stmt_code scope) (block_code scope) (for_loop_code scope) (bare_item y)))
      (block_item_jumps (map-TypedBlockItem _ _ _ _ _ _ _ _ item_jumps_out stmt_jumps_out jumps_out for_jumps_out (bare_item y)))
  item-by (TypedBlockItem-F.Decl d) h m = (declaration d h.0 m.0, λ out. declarators-closed d.declarators)
  item-by (TypedBlockItem-F.Stmt s) h m = s.1 h.1 m.1

  item-step : (y : Held TypedBlockItem-F) → Item (roll-TypedBlockItem (bare_item y))
  item-step y typed fit =
      let h = tree.opened-item (BlockItemLevel k) (StmtLevel k) (λ _. Unit {0}) (ForLevel k) (bare_item y) typed in
      let m = tree.opened-item (types.BlockItemLevel test) (types.StmtLevel test) (λ _. Unit {0}) (types.ForLevel test) (bare_item y) fit in
      subst (λ c. Lines c (item_jumps_out (roll-TypedBlockItem (bare_item y)))) (sym (tree.item-code scope (bare_item y)))
      (subst (Lines (block_item_step scope (map-TypedBlockItem _ _ _ _ _ _ _ _ (block_item_code scope) (stmt_code scope) (block_code scope) (for_loop_code scope) (bare_item y)))) (sym (item-jumps (bare_item y))) (item-by y h m))

  items-by : (ys : List ((t : TypedBlockItem) × Item t)) → EachItem ItemTyped (map (λ (e : (t : TypedBlockItem) × Item t). e.0) ys) → EachItem ItemFit (map (λ (e : (t : TypedBlockItem) × Item t). e.0) ys)
      → Lines (all_joined (map (block_item_code scope) (map (λ (e : (t : TypedBlockItem) × Item t). e.0) ys)))
      (list_any (λ b. b) (map item_jumps_out (map (λ (e : (t : TypedBlockItem) × Item t). e.0) ys)))
  items-by [] h m = (pieces.nothing-sound laws p f frame, λ out place slot. tt)
  items-by (y ∷ ys) h m =
      let here = y.1 h.0 m.0 in
      let rest = items-by ys h.1 m.1 in
      let others = all_joined (map (block_item_code scope) (map (λ (e : (t : TypedBlockItem) × Item t). e.0) ys)) in
      let jumps = list_any (λ b. b) (map item_jumps_out (map (λ (e : (t : TypedBlockItem) × Item t). e.0) ys)) in (
        pieces.join-sound laws p f frame (block_item_code scope y.0) others here.0 rest.0,
        λ out. pieces.join-closed (block_item_code scope y.0) others (here.1 (neither-first (item_jumps_out y.0) jumps out)) (rest.1 (neither-second (item_jumps_out y.0) jumps out)),
      )

  block-step : (y : Held TypedBlock-F) → Block (roll-TypedBlock (bare_block y))
  block-step y typed fit =
      let h = tree.opened-block (BlockItemLevel k) (StmtLevel k) (λ _. Unit {0}) (ForLevel k) (bare_block y) typed in
      let m = tree.opened-block (types.BlockItemLevel test) (types.StmtLevel test) (λ _. Unit {0}) (types.ForLevel test) (bare_block y) fit in
      subst (λ c. Lines c (jumps_out (roll-TypedBlock (bare_block y)))) (sym (tree.block-code scope (bare_block y)))
      (subst (Lines (all_joined (map (block_item_code scope) (bare_block y).items))) (sym (block-jumps (bare_block y))) (items-by y.items h m))

  for-step : (y : Held TypedForLoop-F) → For (roll-TypedForLoop (bare_for y))
  for-step y typed fit =
      let x = bare_for y in
      let h = tree.opened-for (BlockItemLevel k) (StmtLevel k) (λ _. Unit {0}) (ForLevel k) x typed in
      let m = tree.opened-for (types.BlockItemLevel test) (types.StmtLevel test) (λ _. Unit {0}) (types.ForLevel test) x fit in
      let inner = y.body.1 h.1 m.1 in
      let test = option_map (value_of scope) x.condition in
      let loop = loop_code test (stmt_code scope x.body) (step_code scope x.step) in
      subst (λ c. Lines c false) (sym (tree.for-code scope x)) (
        pieces.join-sound laws p f frame (first_code scope x.init) loop (first-part x.init h.0.init m.0.init)
            (pieces.loop-sound laws p f frame test (stmt_code scope x.body) (step_code scope x.step) (if-condition x.condition h.0.condition m.0.condition) inner.0 (step x.step h.0.step m.0.step)),
        λ out. pieces.join-closed (first_code scope x.init) loop (first-closed x.init) (pieces.loop-closed test (stmt_code scope x.body) (step_code scope x.step)),
      )

  block-all : (b : TypedBlock) → Block b
  block-all = ind-TypedBlock Item Stmt Block For
      (λ x y is. subst (λ z. Item (roll-TypedBlockItem z)) is (item-step y)) (λ x y is. subst (λ z. Stmt (roll-TypedStmt z)) is (stmt-step y))
      (λ x y is. subst (λ z. Block (roll-TypedBlock z)) is (block-step y)) (λ x y is. subst (λ z. For (roll-TypedForLoop z)) is (for-step y))

  pub block-sound : (b : TypedBlock) → IsTypedBlock k b → BlockTypes test b → Lines (block_code scope b) (jumps_out b)
  unfolding IsTypedBlock BlockTypes
  block-sound b typed fit = block-all b typed fit
