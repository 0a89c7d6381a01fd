-- Statements that leave no jump open.
use Rattle.std.proofs.Common.{◌≡◌, ◌∙◌, ℕ, ◌+◌, List, [], ◌∷◌, ◌++◌, length, map, ap, refl, sym, subst, append-nil, Option, Some, None, Result, Ok, Err}
use Rattle.c_types.specs.declared.ty.Ty.{Ty}
use Rattle.c_typed.specs.declared.entity.Entity.{Entity}
use Rattle.c_typed.specs.declared.statement.TypedDecl.{TypedDecl}
use Rattle.c_typed.specs.declared.statement.TypedForInit.{TypedForInit}
use Rattle.c_typed.specs.declared.statement.TypedForInit.TheVariants as for_init
use Rattle.c_typed.specs.declared.statement.TypedForLoop.{TypedForLoop, out-TypedForLoop}
use Rattle.c_typed.specs.declared.statement.TypedFullExpr.{TypedFullExpr}
use Rattle.c_typed.specs.declared.statement.TypedInit.{TypedInit}
use Rattle.c_typed.specs.declared.statement.TypedInitDeclarator.{TypedInitDeclarator}
use Rattle.c_typed.specs.declared.statement.TypedStmt.{TypedStmt}
use Rattle.c_typed.specs.declared.statement.TypedStmt.TheVariants as stmt
use Rattle.std.specs.Option.{option_map}
use Rattle.core_ir.specs.declared.instr.Instr.TheVariants.{Jump}
use Rattle.elab_rows.specs.Choices.{tested}
use Rattle.elab_emit.specs.Emits.{Stops}
use Rattle.elab_rows.specs.Made.{Code}
use Rattle.elab_emit.specs.declared.emitter.Trouble.{Trouble}
use Rattle.elab_rows.specs.Values.{converted_code}
use Rattle.elab_rows.specs.declared.scope.Scope.{Scope}
use Rattle.elab_pieces.specs.Lines.{Piece, PieceCode, all_full, all_joined, full, joined, led}
use Rattle.elab_pieces.specs.Statements.{decl_code, declarator_code, do_code, entity_initialised, expr_code, first_code, for_loop_code, guarded, leaving, loop_code, optional_initialised, return_code, step_code, stmt_code, test_length, test_lines, test_slot, value_of, while_code}
use Rattle.elab_statements.specs.declared.body.Body.{Body}
use Rattle.elab_statements.specs.declared.open.Open.{Open}
use Rattle.elab_statements.specs.inner.Expressions.{DoneOutcome, made_at}
use Rattle.elab_statements.specs.Bodies.{Grows, PieceOutcome, piece_at}
use Rattle.elab_statements.specs.inner.Jumps.{StatementOutcome, opens}
use Rattle.elab_statements.specs.inner.Pieces.{led_does}
use Rattle.elab_statements.proofs.Lead.{opens_append, opens_does}
use Rattle.elab_statements.proofs.StatementForms.{for_loop-of, stmt-Do, stmt-Expr, stmt-For, stmt-Return, stmt-While}

-- none of its lines is open
abbrev pub IsSettled : PieceCode → Type 0
IsSettled c = (place slot at : ℕ) → opens at (c place slot).lines ≡ []

settled_joined : (a b : PieceCode) → IsSettled a → IsSettled b → IsSettled (joined a b)
settled_joined a b h k place slot at =
    let x = a place slot in
    let y = b (place + length x.lines) x.slot in
    opens_append at x.lines y.lines ∙ (λ i. h place slot at i ++ k (place + length x.lines) x.slot (at + length x.lines) i)

settled_full : (c : Code) → IsSettled (full c)
settled_full c place slot at = opens_does at (c place 0 slot).code

settled_all_full : (cs : List Code) → IsSettled (all_full cs)
settled_all_full [] place slot at = refl
settled_all_full (c ∷ cs) place slot at = settled_joined (full c) (all_full cs) (settled_full c) (settled_all_full cs) place slot at

settled_optional : (scope : Scope) (e : Entity) (t : Ty) (o : Option TypedInit) → IsSettled (optional_initialised scope e t o)
settled_optional scope e t None place slot at = refl
settled_optional scope e t (Some i) place slot at = settled_all_full (entity_initialised scope e t i) place slot at

settled_declarator : (scope : Scope) (d : TypedInitDeclarator) → IsSettled (declarator_code scope d)
settled_declarator scope d = settled_optional scope _ _ _

settled_declarators : (scope : Scope) (ds : List TypedInitDeclarator) → IsSettled (all_joined (map (declarator_code scope) ds))
settled_declarators scope [] place slot at = refl
settled_declarators scope (d ∷ ds) place slot at =
    settled_joined (declarator_code scope d) (all_joined (map (declarator_code scope) ds)) (settled_declarator scope d) (settled_declarators scope ds)
    place slot at

pub settled_decl : (scope : Scope) (d : TypedDecl) → IsSettled (decl_code scope d)
settled_decl scope d = settled_declarators scope d.declarators

settled_expr : (scope : Scope) (o : Option TypedFullExpr) → IsSettled (expr_code scope o)
settled_expr scope None place slot at = refl
settled_expr scope (Some e) place slot at = settled_full (value_of scope e) place slot at

settled_first : (scope : Scope) (i : TypedForInit) → IsSettled (first_code scope i)
settled_first scope (for_init.Decl d) = settled_decl scope d
settled_first scope (for_init.Expr e) = settled_expr scope e

settled_return : (scope : Scope) (o : Option TypedFullExpr) → IsSettled (return_code scope o)
settled_return scope None place slot at = opens_does at (leaving scope.has_frame None)
settled_return scope (Some e) place slot at =
    let m = converted_code scope e.expr scope.result place 0 slot in opens_does at (m.code ++ leaving scope.has_frame (Some m.result))

settled_loop : (c : Option Code) (a : PieceCode) (s : Code) → IsSettled (loop_code c a s)
settled_loop c a s place slot at =
    let m = option_map (λ t. t place 0 slot) c in
    let x = a (place + test_length m) (test_slot m slot) in
    let next = place + test_length m + length x.lines in
    let st = s next 0 x.slot in
    let end = next + length st.code + 1 in
    opens_does at (((test_lines m end ++ led end next x.lines) ++ st.code) ++ Jump place ∷ [])

settled_while : (c : Code) (a : PieceCode) → IsSettled (while_code c a)
settled_while c a place slot at =
    let m = c place 0 slot in
    let x = guarded place m a in
    let end = place + length m.code + 1 + length x.lines + 1 in
    opens_does at ((tested m end ++ led end place x.lines) ++ Jump place ∷ [])

settled_do : (a : PieceCode) (c : Code) → IsSettled (do_code a c)
settled_do a c place slot at =
    let x = a place slot in
    let next = place + length x.lines in
    let m = c next 0 x.slot in
    let end = next + length m.code + 2 in
    opens_does at ((led end next x.lines ++ tested m end) ++ Jump place ∷ [])

-- ---- what is settled leaves the open jumps as they are

stays : (old new : Body) (before : List Open) (x : Piece) (r : Result (Unit {0}) Trouble) → opens (length old.out.code) x.lines ≡ []
    → PieceOutcome old x r new → StatementOutcome old before x r new before
stays old new before x (Ok u) e h = (h, sym (ap (λ os. before ++ os) e ∙ append-nil before))
stays old new before x (Err t) e h = h

module _ (scope : Scope) (old new : Body) (before : List Open) (r : Result (Unit {0}) Trouble) where
  -- code that is settled, as that of a statement
  settled_stays : (c d : PieceCode) → d ≡ c → IsSettled c → PieceOutcome old (piece_at old c) r new → StatementOutcome old before (piece_at old d) r new before
  settled_stays c d e s h =
      subst (λ p. StatementOutcome old before (piece_at old p) r new before) (sym e)
      (stays old new before (piece_at old c) r (s (length old.out.code) old.out.slot (length old.out.code)) h)

  pub decl_stays : (d : TypedDecl) → PieceOutcome old (piece_at old (decl_code scope d)) r new
      → StatementOutcome old before (piece_at old (decl_code scope d)) r new before
  decl_stays d = settled_stays (decl_code scope d) (decl_code scope d) refl (settled_decl scope d)

  pub while_stays : (c : TypedFullExpr) (s : TypedStmt) → PieceOutcome old (piece_at old (while_code (value_of scope c) (stmt_code scope s))) r new
      → StatementOutcome old before (piece_at old (stmt_code scope (stmt.While c s))) r new before
  while_stays c s =
      settled_stays (while_code (value_of scope c) (stmt_code scope s)) (stmt_code scope (stmt.While c s)) (stmt-While scope c s)
      (settled_while (value_of scope c) (stmt_code scope s))

  pub do_stays : (s : TypedStmt) (c : TypedFullExpr) → PieceOutcome old (piece_at old (do_code (stmt_code scope s) (value_of scope c))) r new
      → StatementOutcome old before (piece_at old (stmt_code scope (stmt.Do s c))) r new before
  do_stays s c =
      settled_stays (do_code (stmt_code scope s) (value_of scope c)) (stmt_code scope (stmt.Do s c)) (stmt-Do scope s c)
      (settled_do (stmt_code scope s) (value_of scope c))

  pub for_stays : (f : TypedForLoop) → PieceOutcome old (piece_at old (for_loop_code scope f)) r new
      → StatementOutcome old before (piece_at old (stmt_code scope (stmt.For f))) r new before
  for_stays f =
      let l = out-TypedForLoop f in
      let first = first_code scope l.init in
      let c = option_map (value_of scope) l.condition in
      let s = stmt_code scope l.body in
      let e = step_code scope l.step in
      let settled : IsSettled (for_loop_code scope f) =
      subst IsSettled (sym (for_loop-of scope f)) (settled_joined first (loop_code c s e) (settled_first scope l.init) (settled_loop c s e)) in
      settled_stays (for_loop_code scope f) (stmt_code scope (stmt.For f)) (stmt-For scope f) settled

  pub return_stays : (o : Option TypedFullExpr) → PieceOutcome old (piece_at old (return_code scope o)) r new
      → StatementOutcome old before (piece_at old (stmt_code scope (stmt.Return o))) r new before
  return_stays o = settled_stays (return_code scope o) (stmt_code scope (stmt.Return o)) (stmt-Return scope o) (settled_return scope o)

-- where no loop is around, it doesn't matter which jumps are kept
pub jumps_aside : (old : Body) (before : List Open) (x : Piece) (r : Result (Unit {0}) Trouble) (new : Body) (after : List Open)
    → StatementOutcome old before x r new after → PieceOutcome old x r new
jumps_aside old before x (Ok u) new after h = h.0
jumps_aside old before x (Err e) new after h = h

-- ---- full expressions as pieces

pub full_piece : (old new : Body) (C : Code) (r : Result (Unit {0}) Trouble) → DoneOutcome old (made_at old C) r new → PieceOutcome old (piece_at old (full C)) r new
full_piece old new C (Ok u) h =
    let m = made_at old C in subst (λ is. Grows old is m.register m.slot new) (sym (led_does 0 0 m.code)) h
full_piece old new C (Err e) h = subst (λ is. Stops old.out is e) (sym (led_does 0 0 (made_at old C).code)) h

pub expr_piece : (scope : Scope) (old new : Body) (o : Option TypedFullExpr) (r : Result (Unit {0}) Trouble)
    → DoneOutcome old (made_at old (step_code scope o)) r new → PieceOutcome old (piece_at old (expr_code scope o)) r new
expr_piece scope old new None (Ok u) h = h
expr_piece scope old new None (Err e) h = h
expr_piece scope old new (Some e) r h = full_piece old new (value_of scope e) r h

pub expr_stays : (scope : Scope) (old new : Body) (before : List Open) (o : Option TypedFullExpr) (r : Result (Unit {0}) Trouble)
    → DoneOutcome old (made_at old (step_code scope o)) r new → StatementOutcome old before (piece_at old (stmt_code scope (stmt.Expr o))) r new before
expr_stays scope old new before o r h =
    settled_stays scope old new before r (expr_code scope o) (stmt_code scope (stmt.Expr o)) (stmt-Expr scope o) (settled_expr scope o)
    (expr_piece scope old new o r h)

pub ruleset kept = (decl_stays, while_stays, do_stays, for_stays, return_stays, expr_stays)
