use Rattle.std.proofs.lemmas.Result.{err_from_is_err_and}
use Rattle.elab_rows.specs.Values.{part, operand}
use Rattle.elab_parts.proofs.ValueRows.{binary_step, binary_stop}
use Rattle.elab_parts.proofs.nested.Parts.binary_value.Goals as goal

pub returns-clause-made : goal.returns-clause-made
returns-clause-made g c = binary_step c.args.self.now.scope.now.structs c.args.operator (part c.args.self.now.scope.now c.args.a.now) (operand (part c.args.self.now.scope.now c.args.b.now)) c.args.out.now _ _ _ _ c.in_ok-x.ensures.made c.operated.ensures.made

pub returns-in_err-x-clause-made : goal.returns-in_err-x-clause-made
returns-in_err-x-clause-made g c =
    let p = err_from_is_err_and c.from_residual.result c.from_residual.ensures.1 in
    rw (p.1, p.2) (binary_stop c.args.self.now.scope.now.structs c.args.operator (part c.args.self.now.scope.now c.args.a.now) (operand (part c.args.self.now.scope.now c.args.b.now)) c.args.out.now _ c.in_err-x.ensures.made)
