use Rattle.std.proofs.lemmas.Result.{err_from_is_err_and}
use Rattle.elab_rows.specs.Made.{held}
use Rattle.elab_rows.specs.Rows.{operated_type, operated}
use Rattle.elab_rows.specs.Values.{part, operand, old_operand}
use Rattle.elab_expr.proofs.LvalueRows.{back_row, back_stop}
use Rattle.elab_expr.proofs.pass.Pass.new_value.Goals as goal

pub returns-clause-made : goal.returns-clause-made
returns-clause-made g c = back_row (operated_type c.args.self.now.parts.scope.now.structs c.args.operator (operand (part c.args.self.now.parts.scope.now c.args.x.now)) (operand (part c.args.self.now.parts.scope.now c.args.y.now))) ((part c.args.self.now.parts.scope.now c.args.x.now).ty) (operated c.args.self.now.parts.scope.now.structs c.args.operator (old_operand (part c.args.self.now.parts.scope.now c.args.x.now) (held c.args.a)) (operand (part c.args.self.now.parts.scope.now c.args.y.now))) c.args.out.now _ _ _ _ c.in_ok-given.ensures.made c.convert_back.ensures.made

pub returns-in_err-given-clause-made : goal.returns-in_err-given-clause-made
returns-in_err-given-clause-made g c =
    let p = err_from_is_err_and c.from_residual.result c.from_residual.ensures.1 in
    rw (p.1, p.2) (back_stop (operated_type c.args.self.now.parts.scope.now.structs c.args.operator (operand (part c.args.self.now.parts.scope.now c.args.x.now)) (operand (part c.args.self.now.parts.scope.now c.args.y.now))) ((part c.args.self.now.parts.scope.now c.args.x.now).ty) (operated c.args.self.now.parts.scope.now.structs c.args.operator (old_operand (part c.args.self.now.parts.scope.now c.args.x.now) (held c.args.a)) (operand (part c.args.self.now.parts.scope.now c.args.y.now))) c.args.out.now _ c.in_err-given.ensures.made)
