use Rattle.std.proofs.lemmas.Result.{err_from_is_err_and}
use Rattle.elab_rows.specs.Values.{part}
use Rattle.elab_expr.proofs.LvalueRows.{lvalue_row, lvalue_stop}
use Rattle.elab_expr.proofs.pass.Pass.lvalue_value.Goals as goal

pub returns-clause-made : goal.returns-clause-made
returns-clause-made g c = lvalue_row ((part c.args.self.now.parts.scope.now c.args.expr.now).lvalue) c.args.out.now _ _ _ _ c.in_ok-p.ensures.made c.value_of.ensures.made

pub returns-in_err-p-clause-made : goal.returns-in_err-p-clause-made
returns-in_err-p-clause-made g c =
    let p = err_from_is_err_and c.from_residual.result c.from_residual.ensures.1 in
    rw (p.1, p.2) (lvalue_stop ((part c.args.self.now.parts.scope.now c.args.expr.now).lvalue) c.args.out.now _ c.in_err-p.ensures.made)
