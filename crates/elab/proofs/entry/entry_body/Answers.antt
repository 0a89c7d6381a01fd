use Rattle.std.proofs.lemmas.Result.{err_from_is_err_and}
use Rattle.std.proofs.Common.{subst, Ok, Err}
use Rattle.elab_pieces.specs.Entry.{globals_initialised, start, strings_initialised}
use Rattle.elab_pieces.specs.Globals.{globals}
use Rattle.elab_pieces.specs.Lines.{plain_lines}
use Rattle.elab_statements.specs.Bodies.{PieceOutcome, piece_at}
use Rattle.elab_statements.specs.inner.Pieces.{put_piece}
use Rattle.elab.proofs.BodyRows.{three_first, three_last, three_second}
use Rattle.elab.proofs.entry.entry_body.Goals as goal

pub returns-in_err-variables-clause-made : goal.returns-in_err-variables-clause-made
returns-in_err-variables-clause-made c =
    let scope = c.args.scope.now in
    let typed = c.args.typed.now in
    let b = c.args.body.now in
    let m1 = c.variables.new.body in
    let e = c.in_err-variables.field-0.0 in
    let p = err_from_is_err_and c.from_residual.result c.from_residual.ensures.1 in
    rw (p.1, p.2)
    (three_first b c.requires (globals_initialised scope 0 (globals typed.items)) (strings_initialised scope scope.first_string typed.strings)
    (plain_lines (start scope)) m1 e
    (subst (λ is. PieceOutcome b (piece_at b (globals_initialised scope 0 (globals is))) (Err e) m1) c.as_slice.ensures c.in_err-variables.ensures.made))

pub returns-in_err-strings-clause-made : goal.returns-in_err-strings-clause-made
returns-in_err-strings-clause-made c =
    let scope = c.args.scope.now in
    let typed = c.args.typed.now in
    let b = c.args.body.now in
    let m1 = c.variables.new.body in
    let m2 = c.strings.new.body in
    let e = c.in_err-strings.field-0.0 in
    let h1 = subst (λ is. PieceOutcome b (piece_at b (globals_initialised scope 0 (globals is))) (Ok tt) m1) c.as_slice.ensures c.in_ok-variables.ensures.made in
    let p = err_from_is_err_and c.from_residual-in_err-strings.result c.from_residual-in_err-strings.ensures.1 in
    rw (p.1, p.2)
    (three_second b c.requires (globals_initialised scope 0 (globals typed.items)) (strings_initialised scope scope.first_string typed.strings)
    (plain_lines (start scope)) m1 h1 c.in_ok-variables.ensures.sound m2 e
    (subst (λ ss. PieceOutcome m1 (piece_at m1 (strings_initialised scope scope.first_string ss)) (Err e) m2) c.as_slice-2.ensures c.in_err-strings.ensures.made))

pub returns-clause-made : goal.returns-clause-made
returns-clause-made c =
    let scope = c.args.scope.now in
    let typed = c.args.typed.now in
    let b = c.args.body.now in
    let m1 = c.variables.new.body in
    let m2 = c.strings.new.body in
    let m3 = c.start.new.body in
    let h1 = subst (λ is. PieceOutcome b (piece_at b (globals_initialised scope 0 (globals is))) (Ok tt) m1) c.as_slice.ensures c.in_ok-variables.ensures.made in
    let h2 = subst (λ ss. PieceOutcome m1 (piece_at m1 (strings_initialised scope scope.first_string ss)) (Ok tt) m2) c.as_slice-2.ensures c.in_ok-strings.ensures.made in
    three_last b c.requires (globals_initialised scope 0 (globals typed.items)) (strings_initialised scope scope.first_string typed.strings)
    (plain_lines (start scope)) m1 h1 c.in_ok-variables.ensures.sound m2 h2 c.in_ok-strings.ensures.sound m3 c.start.result c.start.ensures.sound
    (put_piece m2 m3 (start scope) c.start.result c.start.ensures.made)
