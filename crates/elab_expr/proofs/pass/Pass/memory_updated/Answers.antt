use Rattle.std.proofs.lemmas.Result.{err_from_is_err_and}
use Rattle.elab_rows.specs.Values.{part, operand}
use Rattle.std.proofs.Common.{Err}
use Rattle.elab_expr.proofs.Updates.{memory_row, memory_both, memory_row_stop, memory_row_loads, memory_row_late}
use Rattle.elab_expr.proofs.pass.Pass.memory_updated.Goals as goal

pub returns-clause-made : goal.returns-clause-made
returns-clause-made g c = memory_both c.args.self.now.parts.scope.now c.args.operator (part c.args.self.now.parts.scope.now c.args.a.now) (operand (part c.args.self.now.parts.scope.now c.args.y.now)) c.args.out.now _ _ _ _ _ _ _ _ c.in_ok-p.ensures.made c.in_ok-old.ensures.made c.in_ok-given.ensures.made c.in_ok-new.ensures.made

pub returns-in_err-p-clause-made : goal.returns-in_err-p-clause-made
returns-in_err-p-clause-made g c =
    let p = err_from_is_err_and c.from_residual.result c.from_residual.ensures.1 in
    rw (p.1, p.2) (memory_row_stop c.args.self.now.parts.scope.now c.args.operator (part c.args.self.now.parts.scope.now c.args.a.now) (operand (part c.args.self.now.parts.scope.now c.args.y.now)) c.args.out.now _ c.in_err-p.ensures.made)

pub returns-in_err-old-clause-made : goal.returns-in_err-old-clause-made
returns-in_err-old-clause-made g c =
    let p = err_from_is_err_and c.from_residual-in_err-old.result c.from_residual-in_err-old.ensures.1 in
    rw (p.1, p.2) (memory_row_loads c.args.self.now.parts.scope.now c.args.operator (part c.args.self.now.parts.scope.now c.args.a.now) (operand (part c.args.self.now.parts.scope.now c.args.y.now)) c.args.out.now _ _ _ c.in_ok-p.ensures.made c.in_err-old.ensures.made)

pub returns-in_err-given-clause-made : goal.returns-in_err-given-clause-made
returns-in_err-given-clause-made g c =
    let p = err_from_is_err_and c.from_residual-in_err-given.result c.from_residual-in_err-given.ensures.1 in
    rw (p.1, p.2) (memory_row_late c.args.self.now.parts.scope.now c.args.operator (part c.args.self.now.parts.scope.now c.args.a.now) (operand (part c.args.self.now.parts.scope.now c.args.y.now)) c.args.out.now _ _ _ _ _ c.in_ok-p.ensures.made c.in_ok-old.ensures.made c.in_err-given.ensures.made)

pub returns-in_err-new-clause-made : goal.returns-in_err-new-clause-made
returns-in_err-new-clause-made g c =
    let p = err_from_is_err_and c.from_residual-in_err-new.result c.from_residual-in_err-new.ensures.1 in
    rw (p.1, p.2) (memory_row c.args.self.now.parts.scope.now c.args.operator (part c.args.self.now.parts.scope.now c.args.a.now) (operand (part c.args.self.now.parts.scope.now c.args.y.now)) c.args.out.now _ _ _ c.args.out.now _ _ _ (Err c.in_err-new.field-0.0) c.in_ok-p.ensures.made c.in_ok-old.ensures.made c.in_ok-given.ensures.made c.in_err-new.ensures.made)
