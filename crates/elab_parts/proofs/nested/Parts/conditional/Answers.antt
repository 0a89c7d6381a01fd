use Rattle.std.proofs.lemmas.Result.{err_from_is_err_and}
use Rattle.elab_rows.specs.Values.{part, converted_part}
use Rattle.elab_parts.proofs.Branches.{conditional_stop, conditional_branch_stop, conditional_first_stop, conditional_kept_stop, conditional_late, conditional_row}
use Rattle.elab_parts.proofs.nested.Parts.conditional.Goals as goal

pub returns-clause-made : goal.returns-clause-made
returns-clause-made g c = conditional_row ((part c.args.self.now.scope.now c.args.c.now).value) (converted_part (part c.args.self.now.scope.now c.args.a.now) c.args.ty.now) (converted_part (part c.args.self.now.scope.now c.args.b.now) c.args.ty.now) c.args.out.now _ _ _ _ _ _ _ _ _ _ _ _ _ c.in_ok-c.ensures.made c.len-branch.ensures c.in_ok-put.ensures.made c.in_ok-x.ensures.made c.len-chosen.ensures c.in_ok-s.ensures.made c.in_ok-y.ensures.made c.finish_conditional.ensures.made

pub returns-in_err-c-clause-made : goal.returns-in_err-c-clause-made
returns-in_err-c-clause-made g c =
    let p = err_from_is_err_and c.from_residual.result c.from_residual.ensures.1 in
    rw (p.1, p.2) (conditional_stop ((part c.args.self.now.scope.now c.args.c.now).value) (converted_part (part c.args.self.now.scope.now c.args.a.now) c.args.ty.now) (converted_part (part c.args.self.now.scope.now c.args.b.now) c.args.ty.now) c.args.out.now _ c.in_err-c.ensures.made)

pub returns-in_err-put-clause-made : goal.returns-in_err-put-clause-made
returns-in_err-put-clause-made g c =
    let p = err_from_is_err_and c.from_residual-in_err-put.result c.from_residual-in_err-put.ensures.1 in
    rw (p.1, p.2) (conditional_branch_stop ((part c.args.self.now.scope.now c.args.c.now).value) (converted_part (part c.args.self.now.scope.now c.args.a.now) c.args.ty.now) (converted_part (part c.args.self.now.scope.now c.args.b.now) c.args.ty.now) c.args.out.now _ _ _ c.in_ok-c.ensures.made c.in_err-put.ensures.made)

pub returns-in_err-x-clause-made : goal.returns-in_err-x-clause-made
returns-in_err-x-clause-made g c =
    let p = err_from_is_err_and c.from_residual-in_err-x.result c.from_residual-in_err-x.ensures.1 in
    rw (p.1, p.2) (conditional_first_stop ((part c.args.self.now.scope.now c.args.c.now).value) (converted_part (part c.args.self.now.scope.now c.args.a.now) c.args.ty.now) (converted_part (part c.args.self.now.scope.now c.args.b.now) c.args.ty.now) c.args.out.now _ _ _ _ c.in_ok-c.ensures.made c.in_ok-put.ensures.made c.in_err-x.ensures.made)

pub returns-in_err-s-clause-made : goal.returns-in_err-s-clause-made
returns-in_err-s-clause-made g c =
    let p = err_from_is_err_and c.from_residual-in_err-s.result c.from_residual-in_err-s.ensures.1 in
    rw (p.1, p.2) (conditional_kept_stop ((part c.args.self.now.scope.now c.args.c.now).value) (converted_part (part c.args.self.now.scope.now c.args.a.now) c.args.ty.now) (converted_part (part c.args.self.now.scope.now c.args.b.now) c.args.ty.now) c.args.out.now _ _ _ c.args.out.now _ _ _ c.in_ok-c.ensures.made c.in_ok-put.ensures.made c.in_ok-x.ensures.made c.in_err-s.ensures.made)

pub returns-in_err-y-clause-made : goal.returns-in_err-y-clause-made
returns-in_err-y-clause-made g c =
    let p = err_from_is_err_and c.from_residual-in_err-y.result c.from_residual-in_err-y.ensures.1 in
    rw (p.1, p.2) (conditional_late ((part c.args.self.now.scope.now c.args.c.now).value) (converted_part (part c.args.self.now.scope.now c.args.a.now) c.args.ty.now) (converted_part (part c.args.self.now.scope.now c.args.b.now) c.args.ty.now) c.args.out.now _ _ _ _ _ _ _ _ c.in_ok-c.ensures.made c.in_ok-put.ensures.made c.in_ok-x.ensures.made c.in_ok-s.ensures.made c.in_err-y.ensures.made)
