use Rattle.std.proofs.lemmas.Result.{err_from_is_err_and}
use Rattle.elab_rows.specs.Values.{part}
use Rattle.elab_expr.proofs.LvalueRows.{unary_row, unary_stop}
use Rattle.elab_expr.proofs.pass.Pass.unary_value.Goals as goal

pub returns-clause-made : goal.returns-clause-made
returns-clause-made g c = unary_row c.args.operator ((part c.args.self.now.parts.scope.now c.args.a.now).value) c.args.out.now _ _ _ _ c.in_ok-a.ensures.made c.unary.ensures.made

pub returns-in_err-a-clause-made : goal.returns-in_err-a-clause-made
returns-in_err-a-clause-made g c =
    let p = err_from_is_err_and c.from_residual.result c.from_residual.ensures.1 in
    rw (p.1, p.2) (unary_stop c.args.operator ((part c.args.self.now.parts.scope.now c.args.a.now).value) c.args.out.now _ c.in_err-a.ensures.made)
