use Rattle.std.proofs.lemmas.Result.{err_from_is_err_and}
use Rattle.elab_rows.specs.Values.{part}
use Rattle.elab_parts.proofs.Branches.{and_stop, and_branch_stop, and_late, and_row}
use Rattle.elab_parts.proofs.nested.Parts.and.Goals as goal

pub returns-clause-made : goal.returns-clause-made
returns-clause-made g c = and_row ((part c.args.self.now.scope.now c.args.a.now).value) ((part c.args.self.now.scope.now c.args.b.now).value) c.args.out.now _ _ _ _ _ _ _ _ c.in_ok-x.ensures.made c.len-hole.ensures c.in_ok-put.ensures.made c.in_ok-y.ensures.made c.finish_and.ensures.made

pub returns-in_err-x-clause-made : goal.returns-in_err-x-clause-made
returns-in_err-x-clause-made g c =
    let p = err_from_is_err_and c.from_residual.result c.from_residual.ensures.1 in
    rw (p.1, p.2) (and_stop ((part c.args.self.now.scope.now c.args.a.now).value) ((part c.args.self.now.scope.now c.args.b.now).value) c.args.out.now _ c.in_err-x.ensures.made)

pub returns-in_err-put-clause-made : goal.returns-in_err-put-clause-made
returns-in_err-put-clause-made g c =
    let p = err_from_is_err_and c.from_residual-in_err-put.result c.from_residual-in_err-put.ensures.1 in
    rw (p.1, p.2) (and_branch_stop ((part c.args.self.now.scope.now c.args.a.now).value) ((part c.args.self.now.scope.now c.args.b.now).value) c.args.out.now _ _ _ c.in_ok-x.ensures.made c.in_err-put.ensures.made)

pub returns-in_err-y-clause-made : goal.returns-in_err-y-clause-made
returns-in_err-y-clause-made g c =
    let p = err_from_is_err_and c.from_residual-in_err-y.result c.from_residual-in_err-y.ensures.1 in
    rw (p.1, p.2) (and_late ((part c.args.self.now.scope.now c.args.a.now).value) ((part c.args.self.now.scope.now c.args.b.now).value) c.args.out.now _ _ _ _ c.in_ok-x.ensures.made c.in_ok-put.ensures.made c.in_err-y.ensures.made)
