use Rattle.std.proofs.lemmas.Result.{err_from_is_err_and}
use Rattle.elab_rows.specs.Values.{part}
use Rattle.elab_expr.proofs.NamedRows.{postfix_row, postfix_stop}
use Rattle.elab_expr.proofs.pass.Pass.postfix.Goals as goal

pub returns-clause-made : goal.returns-clause-made
returns-clause-made g c =
    postfix_row c.args.self.now.parts.scope.now c.args.operator (part c.args.self.now.parts.scope.now c.args.a.now) c.args.out.now _ _ c.in_ok-values.ensures.made

pub returns-in_err-values-clause-made : goal.returns-in_err-values-clause-made
returns-in_err-values-clause-made g c =
    let p = err_from_is_err_and c.from_residual.result c.from_residual.ensures.1 in
    rw (p.1, p.2) (postfix_stop c.args.self.now.parts.scope.now c.args.operator (part c.args.self.now.parts.scope.now c.args.a.now) c.args.out.now _ c.in_err-values.ensures.made)
