use Rattle.std.proofs.lemmas.Result.{err_from_is_err_and}
use Rattle.elab_rows.specs.Values.{converted_code}
use Rattle.elab_statements.proofs.FullRows.{return_row, return_stops}
use Rattle.elab_statements.proofs.simple.return_expression.Goals as goal

pub returns-in_err-a-clause-made : goal.returns-in_err-a-clause-made
returns-in_err-a-clause-made c =
    let p = err_from_is_err_and c.from_residual.result c.from_residual.ensures.1 in
    rw (p.1, p.2)
    (return_stops c.args.body.now c.full_converted.new.body (converted_code c.args.scope.now c.args.expr.now c.args.scope.now.result)
    c.args.scope.now.has_frame c.in_err-a.field-0.0 c.in_err-a.ensures.made)

pub returns-clause-made : goal.returns-clause-made
returns-clause-made c =
    return_row c.args.body.now c.full_converted.new.body (converted_code c.args.scope.now c.args.expr.now c.args.scope.now.result)
    c.args.scope.now.has_frame c.in_ok-a.a c.in_ok-a.ensures.made c.leave.new.body c.leave.result c.leave.ensures.made
