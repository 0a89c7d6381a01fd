use Rattle.std.proofs.lemmas.Result.{err_from_is_err_and}
use Rattle.elab_rows.specs.Made.{held}
use Rattle.elab_rows.specs.Values.{part, operand, old_operand}
use Rattle.elab_parts.proofs.ValueRows.{operation_step, operation_stop, operation_late}
use Rattle.elab_parts.proofs.nested.Parts.operated_by.Goals as goal

pub returns-clause-made : goal.returns-clause-made
returns-clause-made g c = operation_step c.args.operation.now (old_operand (part c.args.self.now.scope.now c.args.x.now) (held c.args.a)) (operand (part c.args.self.now.scope.now c.args.y.now)) c.args.out.now _ _ _ _ _ _ c.in_ok-a.ensures.made c.in_ok-b.ensures.made c.finish_operation.ensures.made

pub returns-in_err-a-clause-made : goal.returns-in_err-a-clause-made
returns-in_err-a-clause-made g c =
    let p = err_from_is_err_and c.from_residual.result c.from_residual.ensures.1 in
    rw (p.1, p.2) (operation_stop c.args.operation.now (old_operand (part c.args.self.now.scope.now c.args.x.now) (held c.args.a)) (operand (part c.args.self.now.scope.now c.args.y.now)) c.args.out.now _ c.in_err-a.ensures.made)

pub returns-in_err-b-clause-made : goal.returns-in_err-b-clause-made
returns-in_err-b-clause-made g c =
    let p = err_from_is_err_and c.from_residual-in_err-b.result c.from_residual-in_err-b.ensures.1 in
    rw (p.1, p.2) (operation_late c.args.operation.now (old_operand (part c.args.self.now.scope.now c.args.x.now) (held c.args.a)) (operand (part c.args.self.now.scope.now c.args.y.now)) c.args.out.now _ _ _ c.in_ok-a.ensures.made c.in_err-b.ensures.made)
