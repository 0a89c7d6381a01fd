use Rattle.std.proofs.lemmas.Result.{err_from_is_err_and}
use Rattle.elab_rows.specs.Values.{part, converted_part}
use Rattle.elab_expr.proofs.LvalueRows.{assigned_row, assigned_stop}
use Rattle.elab_expr.proofs.pass.Pass.value_assign.Goals as goal

pub returns-clause-made : goal.returns-clause-made
returns-clause-made g c = assigned_row ((part c.args.self.now.parts.scope.now c.args.a.now).name) ((part c.args.self.now.parts.scope.now c.args.a.now).lvalue) (converted_part (part c.args.self.now.parts.scope.now c.args.b.now) (part c.args.self.now.parts.scope.now c.args.a.now).ty) c.args.out.now _ _ _ _ c.in_ok-x.ensures.made c.scalar_assign.ensures.made

pub returns-in_err-x-clause-made : goal.returns-in_err-x-clause-made
returns-in_err-x-clause-made g c =
    let p = err_from_is_err_and c.from_residual.result c.from_residual.ensures.1 in
    rw (p.1, p.2) (assigned_stop ((part c.args.self.now.parts.scope.now c.args.a.now).name) ((part c.args.self.now.parts.scope.now c.args.a.now).lvalue) (converted_part (part c.args.self.now.parts.scope.now c.args.b.now) (part c.args.self.now.parts.scope.now c.args.a.now).ty) c.args.out.now _ c.in_err-x.ensures.made)
