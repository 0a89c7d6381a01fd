use Rattle.std.proofs.lemmas.Result.{err_from_is_err_and}
use Rattle.elab_rows.specs.Values.{part}
use Rattle.elab_parts.proofs.ValueRows.{converted_row, converted_stop}
use Rattle.elab_parts.proofs.nested.Parts.converted.Goals as goal

pub returns-clause-made : goal.returns-clause-made
returns-clause-made g c = converted_row (part c.args.self.now.scope.now c.args.expr.now) c.args.to.now c.args.out.now _ _ _ _ c.in_ok-a.ensures.made c.convert_value.ensures.made

pub returns-in_err-a-clause-made : goal.returns-in_err-a-clause-made
returns-in_err-a-clause-made g c =
    let p = err_from_is_err_and c.from_residual.result c.from_residual.ensures.1 in
    rw (p.1, p.2) (converted_stop (part c.args.self.now.scope.now c.args.expr.now) c.args.to.now c.args.out.now _ c.in_err-a.ensures.made)
