use Rattle.std.proofs.Common.{Ok}
use Rattle.std.proofs.lemmas.Result.{err_from_is_err_and}
use Rattle.c_types.specs.declared.ty.FnTy.{out-FnTy}
use Rattle.elab_pieces.specs.Functions.{body_code, parameter_copies}
use Rattle.elab_pieces.specs.Statements.{block_code}
use Rattle.elab.proofs.BodyRows.{whole, whole_stops}
use Rattle.elab.proofs.functions.body_of.Goals as goal

pub returns-in_err-whole_body : goal.returns-in_err-whole_body
returns-in_err-whole_body c =
    let scope = c.args.scope.now in
    let p = err_from_is_err_and c.from_residual.result c.from_residual.ensures.1 in
    rw (p.1, p.2)
    (whole_stops c.new-body.result
    (body_code scope.has_frame (parameter_copies 0 (out-FnTy c.args.ty.now).params scope.locals) (block_code scope c.args.function.now.block)) c.args.slots
    c.in_err-whole_body.field-0.0 c.new-body.ensures.code c.new-body.ensures.slot c.in_err-whole_body.ensures.made)

pub returns : goal.returns
returns c =
    let scope = c.args.scope.now in
    whole c.new-body.result c.whole_body.new.body
    (body_code scope.has_frame (parameter_copies 0 (out-FnTy c.args.ty.now).params scope.locals) (block_code scope c.args.function.now.block)) c.args.slots
    (Ok tt) c.new-body.ensures.code c.new-body.ensures.registers c.new-body.ensures.slot c.in_ok-whole_body.ensures.sound c.in_ok-whole_body.ensures.made
