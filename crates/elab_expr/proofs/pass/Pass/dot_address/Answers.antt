use Rattle.std.proofs.lemmas.Result.{err_from_is_err_and}
use Rattle.elab_rows.specs.Values.{part, member_offset}
use Rattle.elab_expr.proofs.LvalueRows.{member_row, member_stop}
use Rattle.elab_expr.proofs.pass.Pass.dot_address.Goals as goal

pub returns-clause-made : goal.returns-clause-made
returns-clause-made g c = member_row (member_offset c.args.self.now.parts.scope.now (part c.args.self.now.parts.scope.now c.args.a.now).ty c.args.n) ((part c.args.self.now.parts.scope.now c.args.a.now).lvalue.address) c.args.out.now _ _ _ _ _ c.in_ok-k.ensures c.in_ok-p.ensures.made c.member_at.ensures.made

pub returns-in_err-p-clause-made : goal.returns-in_err-p-clause-made
returns-in_err-p-clause-made g c =
    let p = err_from_is_err_and c.from_residual-in_err-p.result c.from_residual-in_err-p.ensures.1 in
    rw (p.1, p.2) (member_stop (member_offset c.args.self.now.parts.scope.now (part c.args.self.now.parts.scope.now c.args.a.now).ty c.args.n) ((part c.args.self.now.parts.scope.now c.args.a.now).lvalue.address) c.args.out.now _ c.in_err-p.ensures.made)
