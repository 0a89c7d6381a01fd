use Rattle.std.proofs.Common.{◌∙◌, map, ap, sym, subst, length, arith, Option, Ok, Err}
use Rattle.std.specs.Option.{option_copied, option_map}
use Rattle.std.proofs.lemmas.Result.{err_from_is_err_and}
use Rattle.c_typed.specs.declared.statement.TypedForLoop.{out-TypedForLoop}
use Rattle.c_typed.specs.declared.statement.TypedFullExpr.{TypedFullExpr}
use Rattle.c_typed.specs.declared.statement.TypedStmt.TheVariants as stmt
use Rattle.elab_rows.specs.Values.{value_code}
use Rattle.elab_pieces.specs.Lines.{all_joined}
use Rattle.elab_pieces.specs.Statements.{block_item_code, decl_code, do_code, first_code, for_loop_code, if_code, if_else_code, loop_code, return_code, step_code, stmt_code, value_of, while_code}
use Rattle.elab_statements.specs.inner.Expressions.{DoneOutcome, FullOutcome, made_at}
use Rattle.elab_statements.specs.Bodies.{PieceOutcome, piece_at}
use Rattle.elab_statements.specs.inner.Jumps.{AreWithin, StatementOutcome}
use Rattle.elab_statements.proofs.Choices.{if_late, if_row, if_stop, test_within}
use Rattle.elab_statements.proofs.DoLoops.{do_done, do_late, do_stop, do_within}
use Rattle.elab_statements.proofs.ForLoops.{loop_done, loop_first, loop_jumps, loop_late, loop_stop, loop_test}
use Rattle.elab_statements.proofs.Items.{leading_stops, leads_item}
use Rattle.elab_statements.proofs.Joined.{two_pieces, two_stops}
use Rattle.elab_statements.proofs.Loops.{own_within, while_done, while_late, while_stop}
use Rattle.elab_statements.proofs.Others.{else_between, else_first, else_second, else_stop, else_tested, else_within, if_else_row}
use Rattle.elab_statements.proofs.Settled.{decl_stays, do_stays, expr_stays, for_stays, return_stays, while_stays}
use Rattle.elab_statements.proofs.StatementForms.{block-of, block_item-Decl, block_item-Stmt, for_loop-of, stmt-Block, stmt-Break, stmt-Continue, stmt-If-alone, stmt-If-else}
use Rattle.elab_statements.proofs.statements.+statement.Goals as goal

-- ---- which row a statement has

pub statement-returns-in-Block-clause-made : goal.statement-returns-in-Block-clause-made
statement-returns-in-Block-clause-made t c =
    let old = c.args.body.now in
    let scope = c.args.scope.now in
    subst (λ f. StatementOutcome old c.args.jumps.now (piece_at old f) c.block.result c.block.new.body c.block.new.jumps)
    (sym (ap (stmt_code scope) c.in-Block.is ∙ stmt-Block scope c.in-Block.inside)) c.block.ensures.made

pub statement-returns-in-None-clause-made : goal.statement-returns-in-None-clause-made
statement-returns-in-None-clause-made t c =
    let old = c.args.body.now in
    let scope = c.args.scope.now in
    let d = c.in-If.condition in
    subst (λ f. StatementOutcome old c.args.jumps.now (piece_at old f) c.if_alone.result c.if_alone.new.body c.if_alone.new.jumps)
    (sym (ap (stmt_code scope) c.in-If.is ∙ ap (λ o. stmt_code scope (stmt.If d c.in-If.then_branch o)) c.in-None.is
    ∙ stmt-If-alone scope d c.in-If.then_branch ∙ ap (λ s. if_code (value_of scope d) (stmt_code scope s)) (sym c.get.ensures))) c.if_alone.ensures.made

pub statement-returns-in-Some-clause-made : goal.statement-returns-in-Some-clause-made
statement-returns-in-Some-clause-made t c =
    let old = c.args.body.now in
    let scope = c.args.scope.now in
    let d = c.in-If.condition in
    subst (λ f. StatementOutcome old c.args.jumps.now (piece_at old f) c.if_else.result c.if_else.new.body c.if_else.new.jumps)
    (sym (ap (stmt_code scope) c.in-If.is ∙ ap (λ o. stmt_code scope (stmt.If d c.in-If.then_branch o)) c.in-Some.is
    ∙ stmt-If-else scope d c.in-If.then_branch c.in-Some.other
    ∙ (λ i. if_else_code (value_of scope d) (stmt_code scope (sym c.get-in-Some.ensures i)) (stmt_code scope (sym c.get-in-Some-2.ensures i))))) c.if_else.ensures.made

pub statement-returns-in-While-clause-made : goal.statement-returns-in-While-clause-made
statement-returns-in-While-clause-made t c =
    let old = c.args.body.now in
    let scope = c.args.scope.now in
    let before = c.args.jumps.now in
    let d = c.in-While.condition in
    let r = c.while_loop.result in
    let new = c.while_loop.new.body in
    subst (λ s. StatementOutcome old before (piece_at old (stmt_code scope s)) r new before) (sym c.in-While.is)
    (while_stays scope old new before r d c.in-While.inside
    (subst (λ s. PieceOutcome old (piece_at old (while_code (value_of scope d) (stmt_code scope s))) r new) c.get-in-While.ensures c.while_loop.ensures.made))

pub statement-returns-in-Do-clause-made : goal.statement-returns-in-Do-clause-made
statement-returns-in-Do-clause-made t c =
    let old = c.args.body.now in
    let scope = c.args.scope.now in
    let before = c.args.jumps.now in
    let d = c.in-Do.condition in
    let r = c.do_loop.result in
    let new = c.do_loop.new.body in
    subst (λ s. StatementOutcome old before (piece_at old (stmt_code scope s)) r new before) (sym c.in-Do.is)
    (do_stays scope old new before r c.in-Do.inside d
    (subst (λ s. PieceOutcome old (piece_at old (do_code (stmt_code scope s) (value_of scope d))) r new) c.get-in-Do.ensures c.do_loop.ensures.made))

pub statement-returns-in-For-clause-made : goal.statement-returns-in-For-clause-made
statement-returns-in-For-clause-made t c =
    let old = c.args.body.now in
    let scope = c.args.scope.now in
    let before = c.args.jumps.now in
    let r = c.for_loop.result in
    let new = c.for_loop.new.body in
    subst (λ s. StatementOutcome old before (piece_at old (stmt_code scope s)) r new before) (sym c.in-For.is)
    (for_stays scope old new before r c.in-For.inside
    (subst (λ f. PieceOutcome old (piece_at old (for_loop_code scope f)) r new) c.get-in-For.ensures c.for_loop.ensures.made))

pub statement-returns-in-Break-clause-made : goal.statement-returns-in-Break-clause-made
statement-returns-in-Break-clause-made t c =
    let old = c.args.body.now in
    let scope = c.args.scope.now in
    subst (λ f. StatementOutcome old c.args.jumps.now (piece_at old f) c.jump.result c.jump.new.body c.jump.new.jumps)
    (sym (ap (stmt_code scope) c.in-Break.is ∙ stmt-Break scope)) c.jump.ensures.made

pub statement-returns-in-Continue-clause-made : goal.statement-returns-in-Continue-clause-made
statement-returns-in-Continue-clause-made t c =
    let old = c.args.body.now in
    let scope = c.args.scope.now in
    subst (λ f. StatementOutcome old c.args.jumps.now (piece_at old f) c.jump-in-Continue.result c.jump-in-Continue.new.body c.jump-in-Continue.new.jumps)
    (sym (ap (stmt_code scope) c.in-Continue.is ∙ stmt-Continue scope)) c.jump-in-Continue.ensures.made

pub statement-returns-in-Return-clause-made : goal.statement-returns-in-Return-clause-made
statement-returns-in-Return-clause-made t c =
    let old = c.args.body.now in
    let scope = c.args.scope.now in
    let before = c.args.jumps.now in
    let r = c.return_value.result in
    let new = c.return_value.new.body in
    subst (λ s. StatementOutcome old before (piece_at old (stmt_code scope s)) r new before) (sym c.in-Return.is)
    (return_stays scope old new before r c.in-Return.value
    (subst (λ o. PieceOutcome old (piece_at old (return_code scope o)) r new) c.as_ref.ensures.value c.return_value.ensures.made))

pub statement-returns-in-Expr-clause-made : goal.statement-returns-in-Expr-clause-made
statement-returns-in-Expr-clause-made t c =
    let old = c.args.body.now in
    let scope = c.args.scope.now in
    let before = c.args.jumps.now in
    let r = c.expression.result in
    let new = c.expression.new.body in
    subst (λ s. StatementOutcome old before (piece_at old (stmt_code scope s)) r new before) (sym c.in-Expr.is)
    (expr_stays scope old new before c.in-Expr.value r
    (subst (λ o. DoneOutcome old (made_at old (step_code scope o)) r new) c.as_ref-in-Expr.ensures.value c.expression.ensures.made))

-- ---- `if`

pub if_alone-returns-in_err-c-clause-made : goal.if_alone-returns-in_err-c-clause-made
if_alone-returns-in_err-c-clause-made t c =
    let p = err_from_is_err_and c.from_residual.result c.from_residual.ensures.1 in
    rw (p.1, p.2)
    (if_stop c.args.body.now c.condition.new.body (value_of c.args.scope.now c.args.c.now) (stmt_code c.args.scope.now c.args.inside.now) c.args.jumps.now
    c.in_err-c.field-0.0 c.in_err-c.ensures.made)

pub if_alone-returns-in_err-statement-clause-made : goal.if_alone-returns-in_err-statement-clause-made
if_alone-returns-in_err-statement-clause-made t c =
    let p = err_from_is_err_and c.from_residual-in_err-statement.result c.from_residual-in_err-statement.ensures.1 in
    rw (p.1, p.2)
    (if_late c.args.body.now c.condition.new.body (value_of c.args.scope.now c.args.c.now) (stmt_code c.args.scope.now c.args.inside.now) c.args.jumps.now
    c.in_ok-c.c c.in_err-statement.field-0.0 c.in_ok-c.ensures.made c.in_err-statement.ensures.made)

pub if_alone-finish_if-requires-clause-hole : goal.if_alone-finish_if-requires-clause-hole
if_alone-finish_if-requires-clause-hole t c =
    test_within c.args.body.now c.condition.new.body (value_of c.args.scope.now c.args.c.now) c.in_ok-c.c c.in_ok-c.ensures.made
    c.args.jumps.now c.statement.new.jumps c.statement.new.body (stmt_code c.args.scope.now c.args.inside.now) c.in_ok-statement.ensures.made

pub if_alone-returns-clause-made : goal.if_alone-returns-clause-made
if_alone-returns-clause-made t c =
    if_row c.args.body.now c.condition.new.body (value_of c.args.scope.now c.args.c.now) c.in_ok-c.c c.in_ok-c.ensures.made
    c.args.jumps.now c.statement.new.jumps c.statement.new.body (stmt_code c.args.scope.now c.args.inside.now) c.in_ok-statement.ensures.made
    c.finish_if.new.body c.finish_if.ensures.made

-- ---- `if` with `else`

pub if_else-returns-in_err-c-clause-made : goal.if_else-returns-in_err-c-clause-made
if_else-returns-in_err-c-clause-made t c =
    let p = err_from_is_err_and c.from_residual.result c.from_residual.ensures.1 in
    rw (p.1, p.2)
    (else_stop c.args.body.now c.condition.new.body (value_of c.args.scope.now c.args.c.now) (stmt_code c.args.scope.now c.args.inside.now)
    (stmt_code c.args.scope.now c.args.other.now) c.in_err-c.field-0.0 c.in_err-c.ensures.made)

pub if_else-returns-in_err-statement-clause-made : goal.if_else-returns-in_err-statement-clause-made
if_else-returns-in_err-statement-clause-made t c =
    let p = err_from_is_err_and c.from_residual-in_err-statement.result c.from_residual-in_err-statement.ensures.1 in
    rw (p.1, p.2)
    (else_first c.args.body.now c.condition.new.body (value_of c.args.scope.now c.args.c.now) (stmt_code c.args.scope.now c.args.inside.now)
    (stmt_code c.args.scope.now c.args.other.now) c.in_ok-c.c c.in_ok-c.ensures.made c.in_err-statement.field-0.0 c.in_err-statement.ensures.made)

pub if_else-returns-in_err-jump-clause-made : goal.if_else-returns-in_err-jump-clause-made
if_else-returns-in_err-jump-clause-made t c =
    let p = err_from_is_err_and c.from_residual-in_err-jump.result c.from_residual-in_err-jump.ensures.1 in
    rw (p.1, p.2)
    (else_between c.args.body.now c.condition.new.body (value_of c.args.scope.now c.args.c.now) (stmt_code c.args.scope.now c.args.inside.now)
    (stmt_code c.args.scope.now c.args.other.now) c.in_ok-c.c c.in_ok-c.ensures.made c.args.jumps.now c.statement.new.jumps c.statement.new.body
    c.in_ok-statement.ensures.made c.else_jump.new.body c.in_err-jump.field-0.0 c.in_err-jump.ensures.made)

pub if_else-returns-in_err-statement-2-clause-made : goal.if_else-returns-in_err-statement-2-clause-made
if_else-returns-in_err-statement-2-clause-made t c =
    let p = err_from_is_err_and c.from_residual-in_err-statement-2.result c.from_residual-in_err-statement-2.ensures.1 in
    rw (p.1, p.2)
    (else_second c.args.body.now c.condition.new.body (value_of c.args.scope.now c.args.c.now) (stmt_code c.args.scope.now c.args.inside.now)
    (stmt_code c.args.scope.now c.args.other.now) c.in_ok-c.c c.in_ok-c.ensures.made c.args.jumps.now c.statement.new.jumps c.statement.new.body
    c.in_ok-statement.ensures.made c.else_jump.new.body c.in_ok-jump.jump c.in_err-statement-2.field-0.0 c.in_ok-jump.ensures.made
    c.in_err-statement-2.ensures.made)

pub if_else-finish_if_else-requires-clause-hole : goal.if_else-finish_if_else-requires-clause-hole
if_else-finish_if_else-requires-clause-hole t c =
    else_tested c.args.body.now c.condition.new.body (value_of c.args.scope.now c.args.c.now) c.in_ok-c.c c.in_ok-c.ensures.made c.args.jumps.now
    c.statement.new.jumps c.statement.new.body (stmt_code c.args.scope.now c.args.inside.now) (stmt_code c.args.scope.now c.args.other.now)
    c.in_ok-statement.ensures.made c.else_jump.new.body c.in_ok-jump.jump c.in_ok-jump.ensures.made c.statement-2.new.jumps c.statement-2.new.body
    c.in_ok-statement-2.ensures.made

pub if_else-finish_if_else-requires-clause-jump : goal.if_else-finish_if_else-requires-clause-jump
if_else-finish_if_else-requires-clause-jump t c =
    else_within c.args.body.now c.condition.new.body (value_of c.args.scope.now c.args.c.now) c.in_ok-c.c c.in_ok-c.ensures.made c.args.jumps.now
    c.statement.new.jumps c.statement.new.body (stmt_code c.args.scope.now c.args.inside.now) (stmt_code c.args.scope.now c.args.other.now)
    c.in_ok-statement.ensures.made c.else_jump.new.body c.in_ok-jump.jump c.in_ok-jump.ensures.made c.statement-2.new.jumps c.statement-2.new.body
    c.in_ok-statement-2.ensures.made

pub if_else-returns-clause-made : goal.if_else-returns-clause-made
if_else-returns-clause-made t c =
    if_else_row c.args.body.now c.condition.new.body (value_of c.args.scope.now c.args.c.now) c.in_ok-c.c c.in_ok-c.ensures.made c.args.jumps.now
    c.statement.new.jumps c.statement.new.body (stmt_code c.args.scope.now c.args.inside.now) (stmt_code c.args.scope.now c.args.other.now)
    c.in_ok-statement.ensures.made c.else_jump.new.body c.in_ok-jump.jump c.in_ok-jump.ensures.made c.statement-2.new.jumps c.statement-2.new.body
    c.in_ok-statement-2.ensures.made c.finish_if_else.new.body c.finish_if_else.ensures.made

-- ---- `while`

pub while_loop-returns-in_err-c-clause-made : goal.while_loop-returns-in_err-c-clause-made
while_loop-returns-in_err-c-clause-made t c =
    let p = err_from_is_err_and c.from_residual.result c.from_residual.ensures.1 in
    rw (p.1, p.2)
    (while_stop c.args.body.now c.condition.new.body (value_of c.args.scope.now c.args.c.now) (stmt_code c.args.scope.now c.args.inside.now)
    c.in_err-c.field-0.0 c.in_err-c.ensures.made)

pub while_loop-returns-in_err-statement-clause-made : goal.while_loop-returns-in_err-statement-clause-made
while_loop-returns-in_err-statement-clause-made t c =
    let p = err_from_is_err_and c.from_residual-in_err-statement.result c.from_residual-in_err-statement.ensures.1 in
    rw (p.1, p.2)
    (while_late c.args.body.now c.condition.new.body (value_of c.args.scope.now c.args.c.now) (stmt_code c.args.scope.now c.args.inside.now)
    c.in_ok-c.c c.in_err-statement.field-0.0 c.in_ok-c.ensures.made c.in_err-statement.ensures.made)

pub while_loop-finish_loop-requires-clause-test : goal.while_loop-finish_loop-requires-clause-test
while_loop-finish_loop-requires-clause-test t c =
    test_within c.args.body.now c.condition.new.body (value_of c.args.scope.now c.args.c.now) c.in_ok-c.c c.in_ok-c.ensures.made
    c.new-own.result c.statement.new.jumps c.statement.new.body (stmt_code c.args.scope.now c.args.inside.now) c.in_ok-statement.ensures.made

pub while_loop-finish_loop-requires-clause-jumps : goal.while_loop-finish_loop-requires-clause-jumps
while_loop-finish_loop-requires-clause-jumps t c =
    let mid = c.condition.new.body in
    let x = piece_at mid (stmt_code c.args.scope.now c.args.inside.now) in
    let last = c.statement.new.body in
    let own = c.statement.new.jumps in
    let hx = subst (λ b. StatementOutcome mid b x (Ok tt) last own) c.new-own.ensures c.in_ok-statement.ensures.made in
    subst (λ os. AreWithin (length last.out.code) os) (sym c.as_slice.ensures) (own_within mid last x own hx)

pub while_loop-returns-clause-made : goal.while_loop-returns-clause-made
while_loop-returns-clause-made t c =
    let mid = c.condition.new.body in
    let x = piece_at mid (stmt_code c.args.scope.now c.args.inside.now) in
    let last = c.statement.new.body in
    let own = c.statement.new.jumps in
    let hx = subst (λ b. StatementOutcome mid b x (Ok tt) last own) c.new-own.ensures c.in_ok-statement.ensures.made in
    while_done c.args.body.now mid last (value_of c.args.scope.now c.args.c.now) c.in_ok-c.c (stmt_code c.args.scope.now c.args.inside.now) own
    c.in_ok-c.ensures.made hx c.as_slice.result.now c.len-start.result c.len-start.result c.as_slice.ensures c.len-start.ensures c.len-start.ensures
    c.finish_loop.result c.finish_loop.new.body c.finish_loop.ensures.made

-- ---- `do`

pub do_loop-returns-in_err-statement-clause-made : goal.do_loop-returns-in_err-statement-clause-made
do_loop-returns-in_err-statement-clause-made t c =
    let p = err_from_is_err_and c.from_residual.result c.from_residual.ensures.1 in
    rw (p.1, p.2)
    (do_stop c.args.body.now c.statement.new.body (value_of c.args.scope.now c.args.c.now) (stmt_code c.args.scope.now c.args.inside.now)
    c.statement.new.jumps c.in_err-statement.field-0.0 c.in_err-statement.ensures.made)

pub do_loop-returns-in_err-value-clause-made : goal.do_loop-returns-in_err-value-clause-made
do_loop-returns-in_err-value-clause-made t c =
    let old = c.args.body.now in
    let scope = c.args.scope.now in
    let x = piece_at old (stmt_code scope c.args.inside.now) in
    let mid = c.statement.new.body in
    let own = c.statement.new.jumps in
    let last = c.full_value.new.body in
    let e = c.in_err-value.field-0.0 in
    let hx = subst (λ b. StatementOutcome old b x (Ok tt) mid own) c.new-own.ensures c.in_ok-statement.ensures.made in
    let p = err_from_is_err_and c.from_residual-in_err-value.result c.from_residual-in_err-value.ensures.1 in
    rw (p.1, p.2)
    (do_late old mid (value_of scope c.args.c.now) (stmt_code scope c.args.inside.now) own hx last e
    (subst (λ d. FullOutcome mid (made_at mid (value_code scope d)) (Err e) last) c.get.ensures c.in_err-value.ensures.made))

pub do_loop-finish_do-requires-clause-jumps : goal.do_loop-finish_do-requires-clause-jumps
do_loop-finish_do-requires-clause-jumps t c =
    let old = c.args.body.now in
    let scope = c.args.scope.now in
    let x = piece_at old (stmt_code scope c.args.inside.now) in
    let mid = c.statement.new.body in
    let own = c.statement.new.jumps in
    let last = c.full_value.new.body in
    let hx = subst (λ b. StatementOutcome old b x (Ok tt) mid own) c.new-own.ensures c.in_ok-statement.ensures.made in
    let h = subst (λ d. FullOutcome mid (made_at mid (value_code scope d)) (Ok c.in_ok-value.value) last) c.get.ensures c.in_ok-value.ensures.made in
    subst (λ os. AreWithin (length last.out.code) os) (sym c.as_slice.ensures)
    (do_within old mid (value_of scope c.args.c.now) (stmt_code scope c.args.inside.now) own hx last c.in_ok-value.value h)

pub do_loop-returns-clause-made : goal.do_loop-returns-clause-made
do_loop-returns-clause-made t c =
    let old = c.args.body.now in
    let scope = c.args.scope.now in
    let x = piece_at old (stmt_code scope c.args.inside.now) in
    let mid = c.statement.new.body in
    let own = c.statement.new.jumps in
    let last = c.full_value.new.body in
    let hx = subst (λ b. StatementOutcome old b x (Ok tt) mid own) c.new-own.ensures c.in_ok-statement.ensures.made in
    let h = subst (λ d. FullOutcome mid (made_at mid (value_code scope d)) (Ok c.in_ok-value.value) last) c.get.ensures c.in_ok-value.ensures.made in
    do_done old mid (value_of scope c.args.c.now) (stmt_code scope c.args.inside.now) own hx last c.in_ok-value.value h c.as_slice.result.now
    c.len-start.result c.len-next.result c.as_slice.ensures c.len-start.ensures c.len-next.ensures c.finish_do.result c.finish_do.new.body
    c.finish_do.ensures.made

-- ---- `for`

pub for_loop-returns-in_err-first_part-clause-made : goal.for_loop-returns-in_err-first_part-clause-made
for_loop-returns-in_err-first_part-clause-made t c =
    let old = c.args.body.now in
    let scope = c.args.scope.now in
    let f = out-TypedForLoop c.args.inside.now in
    let l = loop_code (option_map (value_of scope) f.condition) (stmt_code scope f.body) (step_code scope f.step) in
    let e = c.in_err-first_part.field-0.0 in
    let p = err_from_is_err_and c.from_residual.result c.from_residual.ensures.1 in
    rw (p.1, p.2)
    (subst (λ d. PieceOutcome old (piece_at old d) (Err e) c.first_part.new.body) (sym (for_loop-of scope c.args.inside.now))
    (two_stops old c.requires (first_code scope f.init) l c.first_part.new.body e c.in_err-first_part.ensures.made))

pub for_loop-returns-clause-made : goal.for_loop-returns-clause-made
for_loop-returns-clause-made t c =
    let old = c.args.body.now in
    let scope = c.args.scope.now in
    let f = out-TypedForLoop c.args.inside.now in
    let l = loop_code (option_map (value_of scope) f.condition) (stmt_code scope f.body) (step_code scope f.step) in
    let mid = c.first_part.new.body in
    let r = c.stepped_loop.result in
    let new = c.stepped_loop.new.body in
    let k = subst (λ (os : Option TypedFullExpr × Option TypedFullExpr). PieceOutcome mid (piece_at mid (loop_code (option_map (value_of scope) os.0) (stmt_code scope f.body) (step_code scope os.1))) r new)
    (λ i. (c.as_ref.ensures.value i, c.as_ref-2.ensures.value i)) c.stepped_loop.ensures.made in
    subst (λ d. PieceOutcome old (piece_at old d) r new) (sym (for_loop-of scope c.args.inside.now))
    (two_pieces old c.requires (first_code scope f.init) l mid c.in_ok-first_part.ensures.made c.in_ok-first_part.ensures.sound r new k)

-- ---- a `for` behind its first part

pub stepped_loop-returns-in_err-c-clause-made : goal.stepped_loop-returns-in_err-c-clause-made
stepped_loop-returns-in_err-c-clause-made t c =
    let scope = c.args.scope.now in
    let p = err_from_is_err_and c.from_residual.result c.from_residual.ensures.1 in
    rw (p.1, p.2)
    (loop_stop c.args.body.now c.optional_test.new.body (option_map (value_of scope) (option_copied c.args.c)) (stmt_code scope c.args.inside.now)
    (step_code scope (option_copied c.args.step)) c.in_err-c.field-0.0 c.in_err-c.ensures.made)

pub stepped_loop-returns-in_err-statement-clause-made : goal.stepped_loop-returns-in_err-statement-clause-made
stepped_loop-returns-in_err-statement-clause-made t c =
    let scope = c.args.scope.now in
    let p = err_from_is_err_and c.from_residual-in_err-statement.result c.from_residual-in_err-statement.ensures.1 in
    rw (p.1, p.2)
    (loop_first c.args.body.now c.optional_test.new.body (option_map (value_of scope) (option_copied c.args.c)) (stmt_code scope c.args.inside.now)
    (step_code scope (option_copied c.args.step)) c.in_ok-c.c c.in_ok-c.ensures.made c.in_err-statement.field-0.0 c.in_err-statement.ensures.made)

pub stepped_loop-returns-in_err-expression-clause-made : goal.stepped_loop-returns-in_err-expression-clause-made
stepped_loop-returns-in_err-expression-clause-made t c =
    let scope = c.args.scope.now in
    let mid = c.optional_test.new.body in
    let a = stmt_code scope c.args.inside.now in
    let last = c.statement.new.body in
    let own = c.statement.new.jumps in
    let hx = subst (λ b. StatementOutcome mid b (piece_at mid a) (Ok tt) last own) c.new-own.ensures c.in_ok-statement.ensures.made in
    let p = err_from_is_err_and c.from_residual-in_err-expression.result c.from_residual-in_err-expression.ensures.1 in
    rw (p.1, p.2)
    (loop_late c.args.body.now mid (option_map (value_of scope) (option_copied c.args.c)) a (step_code scope (option_copied c.args.step)) c.in_ok-c.c
    c.in_ok-c.ensures.made last own hx c.expression.new.body c.in_err-expression.field-0.0 c.in_err-expression.ensures.made)

pub stepped_loop-finish_loop-requires-clause-test : goal.stepped_loop-finish_loop-requires-clause-test
stepped_loop-finish_loop-requires-clause-test t c =
    let scope = c.args.scope.now in
    let mid = c.optional_test.new.body in
    let a = stmt_code scope c.args.inside.now in
    let last = c.statement.new.body in
    let own = c.statement.new.jumps in
    let hx = subst (λ b. StatementOutcome mid b (piece_at mid a) (Ok tt) last own) c.new-own.ensures c.in_ok-statement.ensures.made in
    loop_test c.args.body.now mid (option_map (value_of scope) (option_copied c.args.c)) a (step_code scope (option_copied c.args.step)) c.in_ok-c.c
    c.in_ok-c.ensures.made last own hx c.expression.new.body c.in_ok-expression.ensures.made

pub stepped_loop-finish_loop-requires-clause-jumps : goal.stepped_loop-finish_loop-requires-clause-jumps
stepped_loop-finish_loop-requires-clause-jumps t c =
    let scope = c.args.scope.now in
    let mid = c.optional_test.new.body in
    let a = stmt_code scope c.args.inside.now in
    let last = c.statement.new.body in
    let own = c.statement.new.jumps in
    let ready = c.expression.new.body in
    let hx = subst (λ b. StatementOutcome mid b (piece_at mid a) (Ok tt) last own) c.new-own.ensures c.in_ok-statement.ensures.made in
    subst (λ os. AreWithin (length ready.out.code) os) (sym c.as_slice.ensures)
    (loop_jumps c.args.body.now mid (option_map (value_of scope) (option_copied c.args.c)) a (step_code scope (option_copied c.args.step)) c.in_ok-c.c
    c.in_ok-c.ensures.made last own hx ready c.in_ok-expression.ensures.made)

pub stepped_loop-returns-clause-made : goal.stepped_loop-returns-clause-made
stepped_loop-returns-clause-made t c =
    let scope = c.args.scope.now in
    let mid = c.optional_test.new.body in
    let a = stmt_code scope c.args.inside.now in
    let last = c.statement.new.body in
    let own = c.statement.new.jumps in
    let ready = c.expression.new.body in
    let hx = subst (λ b. StatementOutcome mid b (piece_at mid a) (Ok tt) last own) c.new-own.ensures c.in_ok-statement.ensures.made in
    loop_done c.args.body.now mid (option_map (value_of scope) (option_copied c.args.c)) a (step_code scope (option_copied c.args.step)) c.in_ok-c.c
    c.in_ok-c.ensures.made last own hx ready c.in_ok-expression.ensures.made c.as_slice.result.now c.len-start.result c.len-next.result
    c.as_slice.ensures c.len-start.ensures c.len-next.ensures c.finish_loop.result c.finish_loop.new.body c.finish_loop.ensures.made

-- ---- blocks

pub block-returns-clause-made : goal.block-returns-clause-made
block-returns-clause-made t c =
    let old = c.args.body.now in
    let scope = c.args.scope.now in
    subst (λ d. StatementOutcome old c.args.jumps.now (piece_at old d) c.block_items.result c.block_items.new.body c.block_items.new.jumps)
    (ap (λ is. all_joined (map (block_item_code scope) is)) c.as_slice.ensures ∙ sym (block-of scope c.args.inside.now)) c.block_items.ensures.made

pub block_items-returns-in_err-block_item-clause-made : goal.block_items-returns-in_err-block_item-clause-made
block_items-returns-in_err-block_item-clause-made t c =
    let f = block_item_code c.args.scope.now in
    let xs = c.args.all.now in
    let start = c.args.body.now in
    let now = c.loop-item.body in
    let kept = c.loop-item.jumps in
    let next = c.block_item.new.body in
    let e = c.in_err-block_item.field-0.0 in
    let p = err_from_is_err_and c.from_residual.result c.from_residual.ensures.1 in
    rw (p.1, p.2)
    (leading_stops f xs start c.args.jumps.now (piece_at start (all_joined (map f xs))) now kept c.loop-item.item-index c.item-item.result (omega arith)
    c.loop-item.invariant e
    (subst (λ x. PieceOutcome now (piece_at now (f x)) (Err e) next) c.item-item.is c.in_err-block_item.ensures.made))

pub block_items-loop-item-preserved : goal.block_items-loop-item-preserved
block_items-loop-item-preserved t c =
    let f = block_item_code c.args.scope.now in
    let xs = c.args.all.now in
    let start = c.args.body.now in
    let now = c.loop-item.body in
    let kept = c.loop-item.jumps in
    let next = c.block_item.new.body in
    let more = c.block_item.new.jumps in
    leads_item f xs start c.args.jumps.now (piece_at start (all_joined (map f xs))) now kept c.loop-item.item-index c.item-item.result (omega arith)
    c.loop-item.invariant next more
    (subst (λ x. StatementOutcome now kept (piece_at now (f x)) (Ok tt) next more) c.item-item.is c.in_ok-block_item.ensures.made)
    c.in_ok-block_item.ensures.sound

pub block_item-returns-in-Decl-clause-made : goal.block_item-returns-in-Decl-clause-made
block_item-returns-in-Decl-clause-made t c =
    let old = c.args.body.now in
    let scope = c.args.scope.now in
    let before = c.args.jumps.now in
    let r = c.declaration.result in
    let new = c.declaration.new.body in
    subst (λ d. StatementOutcome old before (piece_at old d) r new before)
    (sym (ap (block_item_code scope) c.in-Decl.is ∙ block_item-Decl scope c.in-Decl.decl))
    (decl_stays scope old new before r c.in-Decl.decl
    (subst (λ d. PieceOutcome old (piece_at old (decl_code scope d)) r new) c.get.ensures c.declaration.ensures.made))

pub block_item-returns-in-Stmt-clause-made : goal.block_item-returns-in-Stmt-clause-made
block_item-returns-in-Stmt-clause-made t c =
    let old = c.args.body.now in
    let scope = c.args.scope.now in
    subst (λ d. StatementOutcome old c.args.jumps.now (piece_at old d) c.statement.result c.statement.new.body c.statement.new.jumps)
    (sym (ap (block_item_code scope) c.in-Stmt.is ∙ block_item-Stmt scope c.in-Stmt.stmt)) c.statement.ensures.made
