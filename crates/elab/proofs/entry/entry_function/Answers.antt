use Rattle.std.proofs.lemmas.Result.{err_from_is_err_and}
use Rattle.std.proofs.Common.{[], sym, subst, Some, Ok}
use Rattle.elab_pieces.specs.Entry.{entry_code, entry_function, entry_type}
use Rattle.elab_pieces.specs.Functions.{function_made}
use Rattle.elab_pieces.specs.Globals.{globals}
use Rattle.elab.specs.inner.Programs.{FunctionOutcome}
use Rattle.elab.proofs.BodyRows.{whole, whole_stops}
use Rattle.elab.proofs.FunctionRows.{plain_function, plain_stops}
use Rattle.elab.proofs.entry.entry_function.Goals as goal

pub returns-in_err-entry_body : goal.returns-in_err-entry_body
unfolding entry_function
returns-in_err-entry_body c =
    let code = entry_code c.args.scope.now (globals c.args.typed.now.items) c.args.typed.now.strings in
    let e = c.in_err-entry_body.field-0.0 in
    let p = err_from_is_err_and c.from_residual.result c.from_residual.ensures.1 in
    rw (p.1, p.2)
    (plain_stops entry_type (code 0 0) e
    (whole_stops c.new-body.result code 0 e c.new-body.ensures.code c.new-body.ensures.slot c.in_err-entry_body.ensures.made))

pub returns : goal.returns
unfolding entry_function
returns c =
    let code = entry_code c.args.scope.now (globals c.args.typed.now.items) c.args.typed.now.strings in
    let body = c.entry_body.new.body in
    let frame = c.no_frame-frame.result in
    subst (λ t. FunctionOutcome (function_made entry_type [] (code 0 0)) (Ok (record { ty = t; body = body; frame = Some frame }))) (sym c.entry_type-ty.ensures)
    (plain_function entry_type (code 0 0) body frame c.no_frame-frame.ensures.locals c.no_frame-frame.ensures.units
    (whole c.new-body.result body code 0 (Ok tt) c.new-body.ensures.code c.new-body.ensures.registers c.new-body.ensures.slot
    c.in_ok-entry_body.ensures.sound c.in_ok-entry_body.ensures.made))
